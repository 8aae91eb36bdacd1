-- Rules of two lists, one after the other, and what the names of rules tell.
use Rattle.std.proofs.Common.{◌≡◌, ◌⊎◌, List, [], ◌∷◌, ◌++◌, Bool, Some, None, true, false, refl, sym, inl, inr}
use Rattle.std.specs.Prelude.{if◌then◌else◌}
use Rattle.std.proofs.lemmas.Option.{none-some, same_Some}
use Rattle.mls_apply.specs.RuleLists.{Rule, rule, first_failing}

-- a rule that fails in the first list is the first one of both
pub first_failing-left : {E : Type 0} (rs qs : List (Rule E)) (e : E) → first_failing rs ≡ Some e → first_failing (rs ++ qs) ≡ Some e
first_failing-left [] qs e h = absurd (none-some e h)
first_failing-left (r ∷ rs) qs e h =
    elim r.holds as (λ b. (if b then first_failing rs else Some r.refusal) ≡ Some e → (if b then first_failing (rs ++ qs) else Some r.refusal) ≡ Some e) [
      | true ↦ λ h. first_failing-left rs qs e h
      | false ↦ λ h. h
    ] h

-- where all of the first list hold, the second decides
pub first_failing-right : {E : Type 0} (rs qs : List (Rule E)) → first_failing rs ≡ None → first_failing (rs ++ qs) ≡ first_failing qs
first_failing-right [] qs h = refl
first_failing-right (r ∷ rs) qs h =
    elim r.holds as (λ b. (if b then first_failing rs else Some r.refusal) ≡ None → (if b then first_failing (rs ++ qs) else Some r.refusal) ≡ first_failing qs) [
      | true ↦ λ h. first_failing-right rs qs h
      | false ↦ λ h. absurd (none-some r.refusal (sym h))
    ] h

-- ---- rules that hold

pub record AreKept {E : Type 0} (rs : List (Rule E)) : Type 0 where
  pub none : first_failing rs ≡ None

first_holds : {E : Type 0} (r : E) (b : Bool) (rs : List (Rule E)) → first_failing (rule r b ∷ rs) ≡ None → (b ≡ true) × AreKept rs
first_holds r true rs h = (refl, record { none = h })
first_holds r false rs h = absurd (none-some r (sym h))

pub passed : {E : Type 0} {r : E} {b : Bool} {rs : List (Rule E)} → AreKept (rule r b ∷ rs) → (b ≡ true) × AreKept rs
passed {r = r} {b = b} {rs = rs} h = first_holds r b rs h.none

both_none : {E : Type 0} (xs ys : List (Rule E)) → first_failing (xs ++ ys) ≡ None → (first_failing xs ≡ None) × (first_failing ys ≡ None)
both_none [] ys h = (refl, h)
both_none {E} (x ∷ xs) ys h = go x.holds (both_none xs ys) h
  where
    go : (b : Bool) → (first_failing (xs ++ ys) ≡ None → (first_failing xs ≡ None) × (first_failing ys ≡ None))
        → first_failing (rule x.refusal b ∷ (xs ++ ys)) ≡ None → (first_failing (rule x.refusal b ∷ xs) ≡ None) × (first_failing ys ≡ None)
    go true later h = later h
    go false later h = absurd (none-some x.refusal (sym h))

pub passed_both : {E : Type 0} (xs ys : List (Rule E)) → AreKept (xs ++ ys) → AreKept xs × AreKept ys
passed_both xs ys h = let b = both_none xs ys h.none in (record { none = b.0 }, record { none = b.1 })

-- a rule that fails for certain
pub refused : {E : Type 0} {r : E} → AreKept (rule r false ∷ []) → ⊥
refused {r = r} h = none-some r (sym h.none)

-- ---- rules of other names

-- the first rule that fails isn't named e
pub record AreOthers {E : Type 0} (e : E) (rs : List (Rule E)) : Type 0 where
  pub never : first_failing rs ≡ Some e → ⊥

pub no_rules : {E : Type 0} {e : E} → AreOthers e []
no_rules {e = e} = record { never = λ h. none-some e h }

other_first : {E : Type 0} (e r : E) (b : Bool) (rs : List (Rule E)) → (r ≡ e → ⊥) → AreOthers e rs → AreOthers e (rule r b ∷ rs)
other_first e r true rs other rest = record { never = λ h. rest.never h }
other_first e r false rs other rest = record { never = λ h. other (same_Some r e h) }

pub one_more : {E : Type 0} {e r : E} {b : Bool} {rs : List (Rule E)} → (r ≡ e → ⊥) → AreOthers e rs → AreOthers e (rule r b ∷ rs)
one_more {e = e} {r = r} {b = b} {rs = rs} other rest = other_first e r b rs other rest

either_fails : {E : Type 0} (xs ys : List (Rule E)) (e : E) → first_failing (xs ++ ys) ≡ Some e → (first_failing xs ≡ Some e) ⊎ (first_failing ys ≡ Some e)
either_fails [] ys e h = inr h
either_fails (x ∷ xs) ys e h = go x.holds (either_fails xs ys e) h
  where
    go : (b : Bool) → (first_failing (xs ++ ys) ≡ Some e → (first_failing xs ≡ Some e) ⊎ (first_failing ys ≡ Some e))
        → first_failing (rule x.refusal b ∷ (xs ++ ys)) ≡ Some e → (first_failing (rule x.refusal b ∷ xs) ≡ Some e) ⊎ (first_failing ys ≡ Some e)
    go true later h = later h
    go false later h = inl h

pub others_both : {E : Type 0} {e : E} (xs ys : List (Rule E)) → AreOthers e xs → AreOthers e ys → AreOthers e (xs ++ ys)
others_both {e = e} xs ys a b = record { never = λ h. elim (either_fails xs ys e h) [ inl f ↦ a.never f | inr f ↦ b.never f ] }

-- a rule before those of other names fails where it is the first that does
pub it_fails : {E : Type 0} (e : E) (b : Bool) (rs : List (Rule E)) → AreOthers e rs → first_failing (rule e b ∷ rs) ≡ Some e → b ≡ false
it_fails e true rs others h = absurd (others.never h)
it_fails e false rs others h = refl
