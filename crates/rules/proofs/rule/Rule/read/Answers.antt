use Rattle.std.proofs.Common.{◌≡◌, ◌≤◌, [], length, Some, Err, sym, refl, ap, ◌∙◌, arith, rules}
use Rattle.std.proofs.lemmas.Result.{MatchResult-at_ok, MatchResult-at_err, err_from_is_err_and}
use Rattle.rules.specs.Descent.{Built}
use Rattle.rules.specs.Faults.{fault_of}
use Rattle.rules.specs.First.{answer}
use Rattle.rules.specs.Rest.{Halts}
use Rattle.rules.specs.Scan.{want}
use Rattle.rules.proofs.Fitting.{size_some, built_fits}
use Rattle.rules.proofs.OneTree.{one_tree}
use Rattle.rules.proofs.Outcome.{too_long, stopped, no_fault, built_flat, built_whole, reads_all, mapped}
use Rattle.rules.proofs.rule.Rule.read.Goals as goal

pub returns-then-text-gt-TEXT_BYTES : goal.returns-then-text-gt-TEXT_BYTES
returns-then-text-gt-TEXT_BYTES c =
    let e = too_long c.args.text.now c.if-text-gt-TEXT_BYTES.true in
    let is = ap (λ o. answer o tt) (sym e) in
    record { answers = is; leaves = rw e refl; one_tree = one_tree; reads_all = reads_all is }

pub invariant_of-self : goal.invariant_of-self
invariant_of-self c =
    let s = c.args.text.now in
    let m = mapped (Built s) (Halts s (want 0 0 [])) (λ _ _. Unit {0}) c.parse.result c.map_err.result c.parse.ensures c.map_err.ensures.cases (λ _ _ _. tt) in
    let b = c.in_ok-table.table in
    let w : Built s b = MatchResult-at_ok _ _ b c.in_ok-table.was m in
    let room : b.count ≤ length b.letters = search rules in
    let space : b.size ≤ length b.nodes = search rules in
    record {
      some = omega (arith, w.size_is, size_some w.tree);
      few = b.few;
      known = b.known;
      ok = built_fits b w room;
      flat = built_flat b w space;
    }

pub returns : goal.returns
returns c =
    let s = c.args.text.now in
    let m = mapped (Built s) (Halts s (want 0 0 [])) (λ _ _. Unit {0}) c.parse.result c.map_err.result c.parse.ensures c.map_err.ensures.cases (λ _ _ _. tt) in
    let b = c.in_ok-table.table in
    let w : Built s b = MatchResult-at_ok _ _ b c.in_ok-table.was m in
    let e = no_fault s b c.if-text-gt-TEXT_BYTES.false w in
    let space : b.size ≤ length b.nodes = search rules in
    let is = ap (λ o. answer o tt) (sym e) in
    record { answers = is; leaves = rw e (built_whole _ w space); one_tree = one_tree; reads_all = reads_all is }

pub returns-in_err-table : goal.returns-in_err-table
returns-in_err-table c =
    let s = c.args.text.now in
    let m = mapped (Built s) (Halts s (want 0 0 [])) (λ x f. f ≡ fault_of (length s) x) c.parse.result c.map_err.result c.parse.ensures c.map_err.ensures.cases (λ x f h. search rules) in
    let k = MatchResult-at_err _ _ c.in_err-table.field-0.0 c.in_err-table.was m in
    let p = err_from_is_err_and c.from_residual.result c.from_residual.ensures.1 in
    let e = stopped s k.0 c.if-text-gt-TEXT_BYTES.false k.1.0 ∙ ap Some (sym k.1.1) in
    let is = p.1 ∙ ap Err p.2 ∙ ap (λ o. answer o tt) (sym e) in
    record { answers = is; leaves = rw e refl; one_tree = one_tree; reads_all = reads_all is }
