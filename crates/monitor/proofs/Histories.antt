-- Laws of histories: one event more, the marks under each change, and a list of calls. Assumes nothing.
use Rattle.std.proofs.Common.{◌≡◌, ℕ, ◌+◌, ◌<◌, ◌≤◌, ◌≢◌, List, [], ◌∷◌, ◌++◌, length, get_or, take, set, Some, None, Ok, Err, Option, sym, refl, ap, ◌∙◌, subst, arith}
use mathlib.Core.HLevel.{is_prop→PathP}
use native.Mathlib.Bridge.{le_prop}
use Rattle.std.proofs.lemmas.List.{take_more, take-append-le, take-take, get_or-set_other, map_push}
use Rattle.rules.specs.declared.fault.Fault.{Fault}
use Rattle.readings.specs.Meaning.{on_set}
use Rattle.verdicts.specs.Case.{Subject}
use Rattle.polynomials.specs.Polynomial.{substitute}
use Rattle.progression.specs.Progress.{change, residual}
use Rattle.progression.specs.Tables.{StandsFor}
use Rattle.progression.proofs.Exact.{residual_more}
use Rattle.monitor.specs.Monitored.{shown_by, residual_of}
use Rattle.monitor.specs.History.{History, refusal, done, unless_refused, after, played, told_of}
use Rattle.monitor.specs.Standings.{Tells, Answers}
use Rattle.monitor.specs.Serves.{MarksStand, Stands, Serves}
use Rattle.monitor.specs.declared.call.Call.{Call}
use Rattle.monitor.specs.declared.inner.Inner.{Inner}
use Rattle.monitor.specs.declared.point.Point.{Point}
use Rattle.monitor.specs.declared.standing.Standing.{Standing}

module _ (b : Subject) where
  -- the residual after one event more
  pub residual_push : (cs : List ℕ) (c : ℕ) → residual_of b (cs ++ c ∷ []) ≡ substitute (residual_of b cs) (change b.rule (on_set b.meaning c b.numbers))
  residual_push cs c = ap (residual b.rule) (map_push (λ k. on_set b.meaning k b.numbers) cs c) ∙ residual_more b.rule (shown_by b cs) (on_set b.meaning c b.numbers)

  -- a call that is not refused
  pub serves_ok : (call : Call) (old new : Inner) (s : Standing) → new.setup ≡ old.setup →
      ((h : History) → Stands b h old → (refusal b h call ≡ None) × Stands b (done h call) new × Tells b (told_of h call) s) → Serves b call old new (Ok s)
  serves_ok call old new s same h = record {
    setup = same;
    stands = λ k st. let P : Option Fault → Type 0 = λ o. Stands b (unless_refused o k (done k call)) new in subst P (sym (h k st).0) (h k st).1;
    answers = λ k st.
        let P : Option Fault → Type 0 = λ o. Answers o (Tells b (told_of k call)) (Ok s) in
        subst P (sym (h k st).0) (s, refl, (h k st).2);
    kept = λ f e. cc;
  }

  -- a call that is refused
  pub serves_err : (call : Call) (old new : Inner) (f : Fault) → new ≡ old → ((h : History) → Stands b h old → refusal b h call ≡ Some f) → Serves b call old new (Err f)
  serves_err call old new f same h = record {
    setup = ap (λ i. i.setup) same;
    stands = λ k st.
        let P : Option Fault → Inner → Type 0 = λ o i. Stands b (unless_refused o k (done k call)) i in
        subst (P (refusal b k call)) (sym same) (subst (λ o. P o old) (sym (h k st)) st);
    answers = λ k st. let P : Option Fault → Type 0 = λ o. Answers o (Tells b (told_of k call)) (Err f) in subst P (sym (h k st)) refl;
    kept = λ g e. same;
  }

  pub marks_higher : (cs : List ℕ) (table : List Point) (top top' : ℕ) (ns : List ℕ) → top ≤ top' → MarksStand b cs table top ns → MarksStand b cs table top' ns
  marks_higher cs table top top' [] h st = tt
  marks_higher cs table top top' (n ∷ ns) h st = let lower = st.0 in (omega arith, st.1, st.2, st.3)

  pub marks_push : (cs : List ℕ) (c : ℕ) (table : List Point) (top : ℕ) (ns : List ℕ) → top ≤ length cs → MarksStand b cs table top ns → MarksStand b (cs ++ c ∷ []) table top ns
  marks_push cs c table top [] h st = tt
  marks_push cs c table top (n ∷ ns) h st =
      let lower = st.0 in
      let within : n ≤ length cs = omega arith in
      let cut : take n cs ≡ take n (cs ++ c ∷ []) = sym (take-append-le n cs (c ∷ []) within) in
      (lower, st.1, (λ d. subst (λ (xs : List ℕ). StandsFor (get_or table (length ns) d).residual (residual_of b xs)) cut (st.2 d)), marks_push cs c table n ns within st.3)

  pub marks_cut : (cs : List ℕ) (k : ℕ) (table : List Point) (top : ℕ) (ns : List ℕ) → top ≤ k → MarksStand b cs table top ns → MarksStand b (take k cs) table top ns
  marks_cut cs k table top [] h st = tt
  marks_cut cs k table top (n ∷ ns) h st =
      let lower = st.0 in
      let within : n ≤ k = omega arith in
      let cut : take n cs ≡ take n (take k cs) = sym (take-take n k cs within) in
      (lower, st.1, (λ d. subst (λ (xs : List ℕ). StandsFor (get_or table (length ns) d).residual (residual_of b xs)) cut (st.2 d)), marks_cut cs k table n ns within st.3)

  pub marks_set : (cs : List ℕ) (table : List Point) (i : ℕ) (k : Point) (top : ℕ) (ns : List ℕ) → length ns ≤ i → MarksStand b cs table top ns → MarksStand b cs (set table i k) top ns
  marks_set cs table i k top [] h st = tt
  marks_set cs table i k top (n ∷ ns) h st =
      let other : length ns ≢ i = omega arith in
      let same = λ (d : Point). get_or-set_other table i (length ns) k d other in (
        st.0,
        (λ d. ap (λ x. x.count) (same d) ∙ st.1 d),
        (λ d. subst (λ (x : Point). StandsFor x.residual (residual_of b (take n cs))) (sym (same d)) (st.2 d)),
        marks_set cs table i k n ns (omega arith) st.3,
      )

  pub played_push : (h : History) (ks : List Call) (k : Call) → played b h (ks ++ k ∷ []) ≡ after b (played b h ks) k
  unfolding played
  played_push h [] k = refl
  played_push h (x ∷ ks) k = played_push (after b h x) ks k

  -- one call more of a list
  pub played_more : (h : History) (ks : List Call) (i : ℕ) (d : Call) → i < length ks → played b h (take (i + 1) ks) ≡ after b (played b h (take i ks)) (get_or ks i d)
  played_more h ks i d within = ap (played b h) (take_more ks i d within) ∙ played_push h (take i ks) (get_or ks i d)

-- a point whose count and residual are as they were is as it was
pub point_same : (old new : Point) → new.count ≡ old.count → new.residual ≡ old.residual → new ≡ old
point_same old new ec er = λ i. record {
  count = ec i;
  residual = er i;
  short = is_prop→PathP (λ j. ec j ≤ 4095) (λ j. le_prop) new.short old.short i;
}

-- and an inner whose point and marks are as they were
pub inner_same : (old new : Inner) → new.setup ≡ old.setup → new.now ≡ old.now → new.marks ≡ old.marks → new ≡ old
inner_same old new es en em = λ i. record { setup = es i; now = en i; marks = em i }
