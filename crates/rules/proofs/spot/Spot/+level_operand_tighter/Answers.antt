use Rattle.std.proofs.Common.{ℕ, suc, ◌+◌, ◌<◌, refl, sym, subst₂, inl, inr, arith}
use Rattle.std.proofs.lemmas.Option.{MatchOption-at_some, MatchOption-at_none}
use Rattle.rules.specs.Descent.{Parsed}
use Rattle.rules.specs.Names.{names_in}
use Rattle.rules.specs.Rest.{rank_at}
use Rattle.rules.proofs.Fronts.{is_sign, shorter}
use Rattle.rules.proofs.Levels.{halts_at, parsed_at, behind_between, name_parsed, truth_parsed, before_parsed, group_parsed, start, Side, side_shorter, turn_on}
use Rattle.rules.proofs.Steps.{later, at_once, at_bad, full, stopped_at, many_names, too_deep, no_operand, behind_before, behind_open}
use Rattle.rules.proofs.spot.Spot.+level_operand_tighter.Goals as goal
use Rattle.rules.proofs.spot.Spot.+level_operand_tighter.Goals.{level-then-to_right+in_ok-level, level-else-to_right+in_ok-right}

-- LEVEL

pub level-returns-in_err-b : goal.level-returns-in_err-b
level-returns-in_err-b t c =
    let so = c.loop-b.invariant c.args.table.now (start c.in_ok-left.ensures) in
    stopped_at _ _ c.from_residual-in_err-b.ensures.1 (later so.parsed.scans (at_bad {s = c.loop-b.rest.now} _ c.in_err-b.ensures))

pub level-returns : goal.level-returns
level-returns t c =
    let so = c.loop-b.invariant c.args.table.now (start c.in_ok-left.ensures) in
    (so.parsed, MatchOption-at_none _ _ c.in_default.is c.in_ok-b.ensures)

pub level-joint-requires : goal.level-joint-requires
level-joint-requires t c =
    let so = c.loop-b.invariant c.args.table.now (start c.in_ok-left.ensures) in
    (omega arith, omega (arith, so.below))

pub level-returns-in_err-room : goal.level-returns-in_err-room
level-returns-in_err-room t c =
    let so = c.loop-b.invariant c.args.table.now (start c.in_ok-left.ensures) in
    let e = (MatchOption-at_some _ _ _ c.in-Some.is c.in_ok-b.ensures).0 in
    stopped_at _ _ c.from_residual-in_err-room.ensures.1 (later so.parsed.scans (full _ e refl c.in_err-room.ensures))

pub level-level-requires : goal.level-level-requires
level-level-requires t c =
    let so = c.loop-b.invariant c.args.table.now (start c.in_ok-left.ensures) in
    let e = (MatchOption-at_some _ _ _ c.in-Some.is c.in_ok-b.ensures).0 in
    omega (arith, shorter c.loop-b.rest.now e (λ no. cc), so.parsed.shorter, c.in_ok-room.ensures)

pub level-returns-in_err-level : goal.level-returns-in_err-level
level-returns-in_err-level t c =
    let so = c.loop-b.invariant c.args.table.now (start c.in_ok-left.ensures) in
    let e = (MatchOption-at_some _ _ _ c.in-Some.is c.in_ok-b.ensures).0 in
    stopped_at _ _ c.from_residual-in_err-level.ensures.1 (behind_between so.parsed e c.in_ok-room.ensures (halts_at _ c.behind-behind.ensures c.in_err-level.ensures))

pub level-tighter-requires-else-to_right : goal.level-tighter-requires-else-to_right
level-tighter-requires-else-to_right t c =
    let so = c.loop-b.invariant c.args.table.now (start c.in_ok-left.ensures) in
    let e = (MatchOption-at_some _ _ _ c.in-Some.is c.in_ok-b.ensures).0 in
    omega (arith, shorter c.loop-b.rest.now e (λ no. cc), so.parsed.shorter, c.in_ok-room.ensures)

pub level-returns-in_err-right : goal.level-returns-in_err-right
level-returns-in_err-right t c =
    let so = c.loop-b.invariant c.args.table.now (start c.in_ok-left.ensures) in
    let e = (MatchOption-at_some _ _ _ c.in-Some.is c.in_ok-b.ensures).0 in
    stopped_at _ _ c.from_residual-in_err-right.ensures.1 (behind_between so.parsed e c.in_ok-room.ensures (halts_at _ c.behind-behind.ensures c.in_err-right.ensures))

-- both ways of the right side
side : (t : ℕ) (c : goal.level-After-put-left t) → Side c.args.self.total c.in-Some.b c.args.k c.in-Some.after.now c.if-to_right.right.1.now c.args.self.depth (c.args.self.pending + 1) c.loop-b.table c.if-to_right.table c.if-to_right.right.0
side t c =
    elim c.if-to_right.branch [
      | level-then-to_right+in_ok-level w ↦
          inl (sym w.if-to_right.ensures, subst₂ (λ r u. Parsed c.args.self.total c.args.k c.in-Some.after.now r.1.now c.args.self.depth (c.args.self.pending + 1) c.loop-b.table u r.0 × (rank_at r.1.now < c.args.k)) (sym w.right-is) (sym w.table-is) (parsed_at c.behind-behind.ensures w.in_ok-level.ensures.0, w.in_ok-level.ensures.1))
      | level-else-to_right+in_ok-right w ↦
          inr (sym w.if-to_right.ensures, subst₂ (λ r u. Parsed c.args.self.total (suc c.args.k) c.in-Some.after.now r.1.now c.args.self.depth (c.args.self.pending + 1) c.loop-b.table u r.0 × (rank_at r.1.now < suc c.args.k)) (sym w.right-is) (sym w.table-is) (parsed_at c.behind-behind.ensures w.in_ok-right.ensures.0, w.in_ok-right.ensures.1))
    ]

pub level-loop-b-smaller : goal.level-loop-b-smaller
level-loop-b-smaller t c =
    let e = (MatchOption-at_some _ _ _ c.in-Some.is c.in_ok-b.ensures).0 in
    omega (arith, shorter c.loop-b.rest.now e (λ no. cc), side_shorter c.in-Some.b (side t c))

pub level-loop-b-preserved : goal.level-loop-b-preserved
level-loop-b-preserved t c = λ a s.
    let e = MatchOption-at_some _ _ _ c.in-Some.is c.in_ok-b.ensures in
    turn_on (c.loop-b.invariant a s) e.0 e.1 c.in_ok-room.ensures (side t c)
    c.put-left.ensures

-- OPERAND

pub operand-returns-in_err-m : goal.operand-returns-in_err-m
operand-returns-in_err-m t c =
    stopped_at _ _ c.from_residual.ensures.1 (at_bad _ c.in_err-m.ensures)

pub operand-returns-in_err-room-in-Name : goal.operand-returns-in_err-room-in-Name
operand-returns-in_err-room-in-Name t c =
    stopped_at _ _ c.from_residual-in_err-room-in-Name.ensures.1 (full _ (is_sign c.in_ok-m.ensures c.in-Name.is) refl c.in_err-room-in-Name.ensures)

pub operand-returns-in_err-room-in-Truth : goal.operand-returns-in_err-room-in-Truth
operand-returns-in_err-room-in-Truth t c =
    stopped_at _ _ c.from_residual-in_err-room-in-Truth.ensures.1 (full _ (is_sign c.in_ok-m.ensures c.in-Truth.is) refl c.in_err-room-in-Truth.ensures)

pub operand-returns-in_err-room-in-Before : goal.operand-returns-in_err-room-in-Before
operand-returns-in_err-room-in-Before t c =
    stopped_at _ _ c.from_residual-in_err-room-in-Before.ensures.1 (full _ (is_sign c.in_ok-m.ensures c.in-Before.is) refl c.in_err-room-in-Before.ensures)

pub operand-operand-requires : goal.operand-operand-requires
operand-operand-requires t c =
    omega (arith, shorter c.args.s.now (is_sign c.in_ok-m.ensures c.in-Before.is) (λ no. cc), c.in_ok-room-in-Before.ensures)

pub operand-returns-in_err-a-in-Before : goal.operand-returns-in_err-a-in-Before
operand-returns-in_err-a-in-Before t c =
    stopped_at _ _ c.from_residual-in_err-a-in-Before.ensures.1 (behind_before c.args.s.now c.in_ok-m.rest.now c.args.self.depth c.args.table.now.size (names_in c.args.table.now) c.args.self.pending (is_sign c.in_ok-m.ensures c.in-Before.is) c.in_ok-room-in-Before.ensures (halts_at _ c.behind.ensures c.in_err-a-in-Before.ensures))

pub operand-returns-then-self-ge-DEPTH : goal.operand-returns-then-self-ge-DEPTH
operand-returns-then-self-ge-DEPTH t c = too_deep _ _ _ _ _ (is_sign c.in_ok-m.ensures c.in-Open.is) (omega arith) c.at.ensures

pub operand-level-requires : goal.operand-level-requires
operand-level-requires t c = omega (arith, shorter c.args.s.now (is_sign c.in_ok-m.ensures c.in-Open.is) (λ no. cc))

pub operand-returns-in_err-a-in-Open : goal.operand-returns-in_err-a-in-Open
operand-returns-in_err-a-in-Open t c =
    stopped_at _ _ c.from_residual-in_err-a-in-Open.ensures.1 (behind_open _ _ _ _ _ (is_sign c.in_ok-m.ensures c.in-Open.is) (omega arith) c.in_err-a-in-Open.ensures)

pub operand-returns-in_err-after-in-Open : goal.operand-returns-in_err-after-in-Open
operand-returns-in_err-after-in-Open t c =
    stopped_at _ _ c.from_residual-in_err-after-in-Open.ensures.1 (behind_open _ _ _ _ _ (is_sign c.in_ok-m.ensures c.in-Open.is) (omega arith) (later c.in_ok-a-in-Open.ensures.0.scans (at_once (c.in_err-after-in-Open.ensures _ _))))

pub operand-returns-in_err-i-in-Name : goal.operand-returns-in_err-i-in-Name
operand-returns-in_err-i-in-Name t c =
    stopped_at _ _ c.from_residual-in_err-i-in-Name.ensures.1 (many_names _ _ _ _ _ (is_sign c.in_ok-m.ensures c.in-Name.is) c.in_ok-room-in-Name.ensures c.in_err-i-in-Name.ensures)

pub operand-returns-in_ok-i-in-Name : goal.operand-returns-in_ok-i-in-Name
operand-returns-in_ok-i-in-Name t c =
    name_parsed (is_sign c.in_ok-m.ensures c.in-Name.is) c.in_ok-room-in-Name.ensures c.in_ok-i-in-Name.ensures c.put.ensures

pub operand-returns-in_ok-room-in-Truth : goal.operand-returns-in_ok-room-in-Truth
operand-returns-in_ok-room-in-Truth t c =
    truth_parsed (is_sign c.in_ok-m.ensures c.in-Truth.is) c.in_ok-room-in-Truth.ensures c.put-in-Truth.ensures

pub operand-returns-in_ok-a-in-Before : goal.operand-returns-in_ok-a-in-Before
operand-returns-in_ok-a-in-Before t c =
    before_parsed (is_sign c.in_ok-m.ensures c.in-Before.is) c.in_ok-room-in-Before.ensures (parsed_at c.behind.ensures c.in_ok-a-in-Before.ensures) c.put-in-Before.ensures

pub operand-returns-in_ok-after-in-Open : goal.operand-returns-in_ok-after-in-Open
operand-returns-in_ok-after-in-Open t c =
    group_parsed (is_sign c.in_ok-m.ensures c.in-Open.is) (omega arith) c.in_ok-a-in-Open.ensures.0 c.in_ok-after-in-Open.ensures

pub operand-returns-in_default : goal.operand-returns-in_default
operand-returns-in_default t c =
    no_operand _ _ _ _ _ c.in_ok-m.ensures c.at-in_default.ensures c.in_default.not-Before c.in_default.not-Truth c.in_default.not-Name c.in_default.not-Open
