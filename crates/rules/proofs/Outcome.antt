-- The outcome of reading a text: its first fault, or the whole rule. Assumes nothing.
use Rattle.std.proofs.Common.{◌≡◌, ℕ, suc, ◌-◌, ◌<◌, ◌≤◌, ltb, List, [], length, Some, None, Ok, Err, Result, MatchResult, sym, ap, ◌∙◌, arith}
use Rattle.std.specs.Result.{IsErrAnd}
use Rattle.std.proofs.lemmas.Result.{err_from_is_err_and}
use Rattle.std.proofs.lemmas.List.{length-take-le}
use Rattle.std.proofs.lemmas.Bool.{cond-true, cond-false, lt-ltb, le-ltb}
use Rattle.rules.specs.Descent.{Built}
use Rattle.rules.specs.Faults.{fault_of}
use Rattle.rules.specs.First.{answer}
use Rattle.rules.specs.Names.{names_in, table_nodes, table_letters, numbered}
use Rattle.rules.specs.Reading.{Says, Whole, Within}
use Rattle.rules.specs.Rest.{turn, Halts}
use Rattle.rules.specs.Scan.{want, have, first_fault}
use Rattle.rules.specs.Text.{◌then◌, signs}
use Rattle.rules.specs.Tree.{decode, node_at, flatten}
use Rattle.rules.specs.declared.fault.Fault.{Fault}
use Rattle.rules.specs.declared.rule.Rule.{Rule}
use Rattle.rules.specs.declared.rule.Table.{Table}
use Rattle.rules.specs.declared.sign.Stop.{Stop}
use Rattle.rules.proofs.Accepted.{accepted}
use Rattle.rules.proofs.Flat.{flat_decode}
use Rattle.rules.proofs.Spans.{halts_scan, done_scan, part, span_end}

-- THE FIRST FAULT

pub too_long : (s : List ℕ) → 512 < length s → first_fault s ≡ Some Fault.LongText
unfolding first_fault
too_long s h = cond-true (ltb 512 (length s)) _ _ (lt-ltb 512 (length s) h)

pub stopped : (s : List ℕ) (f : Stop) → length s ≤ 512 → Halts s (want 0 0 []) f → first_fault s ≡ Some (fault_of (length s) f)
unfolding first_fault signs
stopped s f h x = cond-false (ltb 512 (length s)) _ _ (le-ltb 512 (length s) h) ∙ halts_scan (length s) (suc (length s)) x (omega arith)

pub no_fault : (s : List ℕ) (b : Table) → length s ≤ 512 → Built s b → first_fault s ≡ None
unfolding first_fault signs
no_fault s b h w =
    let σ = have 0 b.size (names_in b) in
    cond-false (ltb 512 (length s)) _ _ (le-ltb 512 (length s) h) ∙ done_scan (length s) (suc (length s)) w.scans (ap (λ l. turn l w.rest σ) w.ends.1) (omega arith)

-- THE RULE

-- the text says the tree that was built
says : {s : List ℕ} {b : Table} (w : Built s b) → Says s w.tree
unfolding signs
says {s} w =
    let p = part w.reads in
    let q = p.spans.all (suc (length s)) (omega arith) in
    record { row = p.row; spells = q.2 ∙ ap (λ x. p.row then x) (span_end (length s) q.0 w.rest w.ends q.1); derives = p.derives }

-- its table decodes to the tree over the letters' numbers
pub built_tree : {s : List ℕ} (b : Table) (w : Built s b) → b.size ≤ length b.nodes → decode (node_at (table_nodes b)) (b.size - 1) ≡ numbered (table_letters b) w.tree
built_tree b w room = flat_decode (numbered (table_letters b) w.tree) (table_nodes b) b.size (length-take-le b.size b.nodes room) (sym w.nodes_are)

-- so it is the flattening of what it decodes to
pub built_flat : {s : List ℕ} (b : Table) → Built s b → b.size ≤ length b.nodes → flatten (decode (node_at (table_nodes b)) (b.size - 1)) 0 ≡ table_nodes b
built_flat b w room = ap (λ t. flatten t 0) (built_tree b w room) ∙ sym w.nodes_are

pub built_whole : {s : List ℕ} (rule : Rule) → Built s rule.table → rule.table.size ≤ length rule.table.nodes → Whole s rule
built_whole rule w room = record { tree = w.tree; says = says w; letters = w.letters_are; nodes = w.nodes_are; root = built_tree rule.table w room }

-- THE CLAUSES

-- every text within the limits is read
pub reads_all : {s : List ℕ} {r : Result (Unit {0}) Fault} → r ≡ answer (first_fault s) tt → Within s → r ≡ Ok tt
reads_all {s} {r} e w = e ∙ ap (λ o. answer o tt) (accepted w)

-- what is known of a result, where the error is made into another
pub mapped : {A B E : Type 0} (P : A → Type 0) (Q : B → Type 0) (S : B → E → Type 0) {R : B → E → Type 0} (r : Result A B) (q : Result A E) → MatchResult r P Q → MatchResult r (λ x. q ≡ Ok x) (λ e. IsErrAnd q (R e)) → ((e : B) (f : E) → R e f → S e f) → MatchResult q P (λ f. (e : B) × (Q e × S e f))
mapped P Q S (Ok x) q p h each = rw h p
mapped P Q S (Err e) q p h each =
    let k = err_from_is_err_and q h in
    rw k.1 (e, (p, each e k.0 k.2))
