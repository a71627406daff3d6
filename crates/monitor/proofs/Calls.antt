-- Each call serves every history. Assumes nothing.
use Rattle.std.proofs.Common.{◌≡◌, ℕ, ◌+◌, ◌-◌, ◌<◌, cond, List, [], ◌∷◌, ◌++◌, length, get_or, take, set, Some, None, Ok, Err, Option, sym, refl, ap, ◌∙◌, subst, arith}
use borrow.Author.Tests.{lt-leb}
use Rattle.std.proofs.lemmas.List.{get_or-set_same, length-take-le, length_push, take_all}
use Rattle.rules.specs.declared.fault.Fault.{Fault}
use Rattle.rules.specs.declared.fault.Fault.TheVariants.{NinthMark}
use Rattle.readings.specs.Meaning.{on_set}
use Rattle.verdicts.specs.Case.{Subject}
use Rattle.polynomials.specs.Polynomial.{Polynomial, substitute}
use Rattle.polynomials.specs.declared.residual.Residual.{Residual}
use Rattle.progression.specs.Progress.{change}
use Rattle.progression.specs.Tables.{StandsFor}
use Rattle.monitor.specs.Monitored.{residual_of, Decided}
use Rattle.monitor.specs.History.{History, event_refusal, unmarked, refusal, backed, older, done, told_of}
use Rattle.monitor.specs.Standings.{Tells}
use Rattle.monitor.specs.Serves.{MarksStand, Stands, Says, Serves}
use Rattle.monitor.specs.declared.call.Call.{Call}
use Rattle.monitor.specs.declared.inner.Inner.{Inner}
use Rattle.monitor.specs.declared.marks.Marks.{Marks}
use Rattle.monitor.specs.declared.point.Point.{Point}
use Rattle.monitor.specs.declared.setup.Setup.{Setup}
use Rattle.monitor.specs.declared.standing.Standing.{Standing}
use Rattle.monitor.proofs.Histories.{residual_push, serves_ok, serves_err, marks_higher, marks_push, marks_cut, marks_set}

module _ (b : Subject) where
  decided_as : (s t : Setup) → t ≡ s → Decided b s → Decided b t
  decided_as s t e = subst (Decided b) (sym e)

  -- a standing asked for as a call
  pub standing_serves : (i : Inner) (s : Standing) → Says b i s → Serves b Call.Standing i i (Ok s)
  standing_serves i s says = serves_ok b Call.Standing i i s refl (λ h st. (refl, st, says h st))

  -- the point that a monitor has come to is as it was
  count_stays : (h : History) (old new : Inner) → new.now ≡ old.now → Stands b h old → new.now.count ≡ length h.codes
  count_stays h old new same st = ap (λ (p : Point). p.count) same ∙ st.count

  residual_stays : (h : History) (old new : Inner) → new.now ≡ old.now → Stands b h old → StandsFor new.now.residual (residual_of b h.codes)
  residual_stays h old new same st = subst (λ (p : Point). StandsFor p.residual (residual_of b h.codes)) (sym same) st.residual

  pub mark_serves : (old new : Inner) (s : Standing) → new.setup ≡ old.setup → new.now ≡ old.now → old.marks.set < 8 → old.marks.set < length old.marks.table →
      new.marks.set ≡ old.marks.set + 1 → new.marks.table ≡ set old.marks.table old.marks.set old.now → Says b new s → Serves b Call.Mark old new (Ok s)
  mark_serves old new s nu nn room within ns nm says = serves_ok b Call.Mark old new s nu (λ h st.
      let k = old.now in
      let few : length h.marks < 8 = omega (arith, st.set) in
      let at : old.marks.set ≡ length h.marks = st.set in
      let written : (d : Point) → get_or new.marks.table (length h.marks) d ≡ k = λ d.
      ap (λ t. get_or t (length h.marks) d) nm ∙ (ap (λ j. get_or (set old.marks.table old.marks.set k) j d) (sym at) ∙ get_or-set_same old.marks.table old.marks.set k d within) in
      let kept = marks_set b h.codes old.marks.table old.marks.set k (length h.codes) h.marks (omega arith) st.marks in
      let P : List Point → Type 0 = λ t. MarksStand b h.codes t (length h.codes) h.marks in
      let all : take (length h.codes) h.codes ≡ h.codes = take_all (length h.codes) h.codes (omega arith) in
      let Q : Point → Type 0 = λ p. StandsFor p.residual (residual_of b (take (length h.codes) h.codes)) in
      let L : List ℕ → Type 0 = λ cs. StandsFor k.residual (residual_of b cs) in
      let stands : Stands b (done h Call.Mark) new = record {
        possible = decided_as old.setup new.setup nu st.possible;
        count = count_stays h old new nn st;
        residual = residual_stays h old new nn st;
        set = omega (arith, ns, st.set);
        marks = (
          omega arith,
          (λ d. ap (λ (p : Point). p.count) (written d) ∙ st.count),
          (λ d. subst Q (sym (written d)) (subst L (sym all) st.residual)),
          subst P (sym nm) kept,
        );
      } in
      (ap (λ t. cond t (Some NinthMark) None) (lt-leb 8 (length h.marks) few), stands, says (done h Call.Mark) stands))

  -- the newest mark is there where one is set
  pub keep_serves : (old new : Inner) (s : Standing) → new.setup ≡ old.setup → new.now ≡ old.now → 0 < old.marks.set → new.marks.set ≡ old.marks.set - 1 → new.marks.table ≡ old.marks.table →
      Says b new s → Serves b Call.Keep old new (Ok s)
  keep_serves old new s nu nn some ns nm says = serves_ok b Call.Keep old new s nu (λ h st. go h h.marks refl st)
    where
      go : (h : History) (ks : List ℕ) → h.marks ≡ ks → Stands b h old → (refusal b h Call.Keep ≡ None) × Stands b (done h Call.Keep) new × Tells b (told_of h Call.Keep) s
      go h [] e st = absurd (omega (arith, some, st.set, ap length e))
      go h (k ∷ ks) e st =
          let M : List ℕ → Type 0 = λ l. MarksStand b h.codes old.marks.table (length h.codes) l in
          let old_marks : MarksStand b h.codes old.marks.table (length h.codes) (k ∷ ks) = subst M e st.marks in
          let lower = old_marks.0 in
          let P : List Point → Type 0 = λ t. MarksStand b h.codes t (length h.codes) ks in
          let Q : List ℕ → Type 0 = λ l. MarksStand b h.codes new.marks.table (length h.codes) l in
          let below = marks_higher b h.codes old.marks.table k (length h.codes) ks lower old_marks.3 in
          let stands : Stands b (done h Call.Keep) new = record {
            possible = decided_as old.setup new.setup nu st.possible;
            count = count_stays h old new nn st;
            residual = residual_stays h old new nn st;
            set = simp e (omega (arith, ns, st.set, ap length e));
            marks = subst Q (sym (ap older e)) (subst P (sym nm) below);
          } in
          (ap unmarked e, stands, says (done h Call.Keep) stands)

  pub back_serves : (old new : Inner) (s : Standing) → new.setup ≡ old.setup → 0 < old.marks.set → new.marks.set ≡ old.marks.set - 1 → new.marks.table ≡ old.marks.table →
      ((d : Point) → get_or old.marks.table new.marks.set d ≡ new.now) → Says b new s → Serves b Call.Back old new (Ok s)
  back_serves old new s nu some ns nm nn says = serves_ok b Call.Back old new s nu (λ h st. go h h.marks refl st)
    where
      go : (h : History) (ks : List ℕ) → h.marks ≡ ks → Stands b h old → (refusal b h Call.Back ≡ None) × Stands b (done h Call.Back) new × Tells b (told_of h Call.Back) s
      go h [] e st = absurd (omega (arith, some, st.set, ap length e))
      go h (k ∷ ks) e st =
          let d = old.now in
          let M : List ℕ → Type 0 = λ l. MarksStand b h.codes old.marks.table (length h.codes) l in
          let old_marks : MarksStand b h.codes old.marks.table (length h.codes) (k ∷ ks) = subst M e st.marks in
          let lower = old_marks.0 in
          let at : new.marks.set ≡ length ks = omega (arith, ns, st.set, ap length e) in
          let newest : get_or old.marks.table (length ks) d ≡ new.now = ap (λ j. get_or old.marks.table j d) (sym at) ∙ nn d in
          let long : length (take k h.codes) ≡ k = length-take-le k h.codes lower in
          let P : List Point → Type 0 = λ t. MarksStand b (take k h.codes) t k ks in
          let L : ℕ → Type 0 = λ n. MarksStand b (take k h.codes) new.marks.table n ks in
          let R : Point → Type 0 = λ p. StandsFor p.residual (residual_of b (take k h.codes)) in
          let cut = marks_cut b h.codes k old.marks.table k ks (omega arith) old_marks.3 in
          let after : Stands b (backed h (k ∷ ks)) new = record {
            possible = decided_as old.setup new.setup nu st.possible;
            count = sym (ap (λ (p : Point). p.count) newest) ∙ old_marks.1 d ∙ sym long;
            residual = subst R newest (old_marks.2 d);
            set = at;
            marks = subst L (sym long) (subst P (sym nm) cut);
          } in
          let S : List ℕ → Type 0 = λ l. Stands b (backed h l) new in
          let stands : Stands b (done h Call.Back) new = subst S (sym e) after in
          (ap unmarked e, stands, says (done h Call.Back) stands)

  -- an event's refusal, by the monitor's own count
  counted : (h : History) (i : Inner) (c : ℕ) (o : Option Fault) → event_refusal b i.now.count c ≡ o → Stands b h i → event_refusal b (length h.codes) c ≡ o
  counted h i c o e st = ap (λ n. event_refusal b n c) (sym st.count) ∙ e

  -- what an event makes of a residual
  abbrev pub Steps : Residual → Residual → ℕ → Type 0
  Steps old new c = (P : Polynomial) → StandsFor old P → StandsFor new (substitute P (change b.rule (on_set b.meaning c b.numbers)))

  stepped : (h : History) (old : Inner) (new : Residual) (c : ℕ) → Steps old.now.residual new c → Stands b h old → StandsFor new (residual_of b (h.codes ++ c ∷ []))
  stepped h old new c nr st = subst (λ (P : Polynomial). StandsFor new P) (sym (residual_push b h.codes c)) (nr (residual_of b h.codes) st.residual)

  pub event_serves : (old new : Inner) (s : Standing) (c : ℕ) → event_refusal b old.now.count c ≡ None →
      new.setup ≡ old.setup → new.now.count ≡ old.now.count + 1 → Steps old.now.residual new.now.residual c → new.marks ≡ old.marks →
      Says b new s → Serves b (Call.Event c) old new (Ok s)
  event_serves old new s c free nu nc nr nm says = serves_ok b (Call.Event c) old new s nu (λ h st.
      let P : Marks → Type 0 = λ ms. MarksStand b (h.codes ++ c ∷ []) ms.table (length (h.codes ++ c ∷ [])) h.marks in
      let longer : length (h.codes ++ c ∷ []) ≡ length h.codes + 1 = length_push h.codes c in
      let pushed = marks_push b h.codes c old.marks.table (length h.codes) h.marks (omega arith) st.marks in
      let higher = marks_higher b (h.codes ++ c ∷ []) old.marks.table (length h.codes) (length (h.codes ++ c ∷ [])) h.marks (omega arith) pushed in
      let stands : Stands b (done h (Call.Event c)) new = record {
        possible = decided_as old.setup new.setup nu st.possible;
        count = nc ∙ (ap (λ n. n + 1) st.count ∙ sym longer);
        residual = stepped h old new.now.residual c nr st;
        set = ap (λ (ms : Marks). ms.set) nm ∙ st.set;
        marks = subst P (sym nm) higher;
      } in
      (counted h old c None free st, stands, says (done h (Call.Event c)) stands))

  pub look_serves : (old new : Inner) (ahead : Residual) (n : ℕ) (s : Standing) (c : ℕ) → event_refusal b old.now.count c ≡ None → new ≡ old → Steps old.now.residual ahead c → n ≡ old.now.count + 1 →
      ((cs : List ℕ) → Decided b old.setup → StandsFor ahead (residual_of b cs) → n ≡ length cs → Tells b cs s) → Serves b (Call.LookAhead c) old new (Ok s)
  look_serves old new ahead n s c free same nr nc says = serves_ok b (Call.LookAhead c) old new s (ap (λ i. i.setup) same) (λ h st.
      let S : Inner → Type 0 = λ i. Stands b h i in
      let longer : length (h.codes ++ c ∷ []) ≡ length h.codes + 1 = length_push h.codes c in
      let count : n ≡ length (h.codes ++ c ∷ []) = nc ∙ (ap (λ k. k + 1) st.count ∙ sym longer) in
      (counted h old c None free st, subst S (sym same) st, says (h.codes ++ c ∷ []) st.possible (stepped h old ahead c nr st) count))

  pub look_refused : (old new : Inner) (f : Fault) (c : ℕ) → event_refusal b old.now.count c ≡ Some f → new ≡ old → Serves b (Call.LookAhead c) old new (Err f)
  look_refused old new f c meets same = serves_err b (Call.LookAhead c) old new f same (λ h st. counted h old c (Some f) meets st)
