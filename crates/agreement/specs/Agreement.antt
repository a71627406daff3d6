-- THE AGREEMENT of the monitor, the evaluation and the claims on a bound rule. Assumes nothing.
use Rattle.std.specs.Prelude.{◌≡◌, ℕ, ◌<◌, ◌≤◌, true, ◌↔◌, List, length, take, drop, Ok, Result, slice_index_or}
use Rattle.rules.specs.Rules.{node_count}
use Rattle.rules.specs.declared.fault.Fault.{Fault}
use Rattle.verdicts.specs.Case.{Subject, Case, on, verdict}
use Rattle.verdicts.specs.declared.scale.YesNo.{YesNo}
use Rattle.claims.specs.Claims.{claim_at, supported, last_of, rooted, checked, Evaluated}
use Rattle.claims.specs.Ways.{verdict_of}
use Rattle.claims.specs.declared.claim.Claim.{Claim}
use Rattle.monitor.specs.History.{History, opened, played, refusal, told_of}
use Rattle.monitor.specs.Monitored.{Undoubted, Each}
use Rattle.monitor.specs.Standings.{Tells, Answers}
use Rattle.monitor.specs.declared.call.Call.{Call}
use Rattle.monitor.specs.declared.standing.Standing.{Standing}

-- the history before call i of a list of calls on a monitor that was just opened
abbrev pub before : Subject → List Call → ℕ → History
before b calls i = played b opened (take i calls)

-- a list of claims that shows a verdict: every claim is supported, and the last is on the whole rule at the first place, with the
-- sign of the verdict
pub record Shows (k : Case) (claims : List Claim) (v : YesNo) : Type 0 where
  pub each : (i : ℕ) → i < length claims → supported k claims i (claim_at claims i) ≡ true
  pub root : rooted (node_count k.rule) claims ≡ true
  pub sign : verdict_of (last_of claims).sign ≡ v

-- After `calls` on a monitor of the bound rule, which answered `answers` and at last stood at `last`
pub record Agreement (b : Subject) (calls : List Call) (old answers : List (Result Standing Fault)) (last : Standing) : Type 0 where
  -- the last standing is that of the events that stand: the verdict is the evaluation's on them, the count is how many they are,
  -- the residual is the fresh one carried over them, and it is for good exactly if no events that may come change the verdict
  pub stands : Tells b (played b opened calls).codes last
  -- each answer is the fault that the history before the call gives, or else says all this of the events that the call speaks of:
  -- those that stand after it, and for a look ahead its own event besides
  pub each : (i : ℕ) (c : Call) (d : Result Standing Fault) → i < length calls → i < length answers →
      Answers (refusal b (before b calls i) (slice_index_or calls i c)) (Tells b (told_of (before b calls i) (slice_index_or calls i c))) (slice_index_or answers i d)
  -- answers that have no place are not written, and places that have no answer are left
  pub long : length answers ≡ length old
  pub past : drop (length calls) answers ≡ drop (length calls) old
  -- an evaluation of the rule on the valuation of a trace answers the trace's verdict
  pub evaluated : (cs : List ℕ) → Evaluated (on b cs)
  -- on a trace without doubt the check accepts some list of claims with a verdict exactly if it is the trace's
  pub accepted : (cs : List ℕ) → length cs ≤ 4095 → Each (Undoubted b) cs → (v : YesNo) →
      ((claims : List Claim) × (checked (on b cs) claims ≡ Ok v)) ↔ (verdict (on b cs) ≡ v)
  -- and it accepts a list exactly if the list shows the verdict
  pub checks : (cs : List ℕ) → length cs ≤ 4095 → Each (Undoubted b) cs → (claims : List Claim) (v : YesNo) →
      (checked (on b cs) claims ≡ Ok v) ↔ Shows (on b cs) claims v
