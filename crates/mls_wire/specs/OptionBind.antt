-- Steps of a computation that may give nothing. Internal: no public contract uses this.
use Rattle.std.proofs.Common.{◌≡◌, Bool, true, false, cond, Option, Some, None, refl, ◌⊎◌, inl, inr}
use Rattle.mls_wire.specs.Parsing.{◌>>=◌}

-- Both steps give a value.
pub bind_some : {A B : Type 0} (o : Option A) (f : A → Option B) (y : B) → (o >>= f) ≡ Some y → (x : A) × (o ≡ Some x) × (f x ≡ Some y)
bind_some (Some x) f y e = (x, refl, e)
bind_some None f y e = absurd cc

-- Equal values were given.
pub some_is : {A : Type 0} (x y : A) → ◌≡◌ {A = Option A} (Some x) (Some y) → x ≡ y
some_is x y e = cc

-- The value given if a test fails.
pub guarded : {A : Type 0} (b : Bool) (o : Option A) (y : A) → cond b None o ≡ Some y → (b ≡ false) × (o ≡ Some y)
guarded true o y e = absurd cc
guarded false o y e = (refl, e)

-- The value given if a test holds.
pub allowed : {A : Type 0} (b : Bool) (o : Option A) (y : A) → cond b o None ≡ Some y → (b ≡ true) × (o ≡ Some y)
allowed true o y e = (refl, e)
allowed false o y e = absurd cc

-- Which of two gives the value.
pub chosen_parts : {A : Type 0} (b : Bool) (o q : Option A) (y : A) → cond b o q ≡ Some y → ((b ≡ true) × (o ≡ Some y)) ⊎ ((b ≡ false) × (q ≡ Some y))
chosen_parts true o q y e = inl (refl, e)
chosen_parts false o q y e = inr (refl, e)

-- Equal second steps.
pub same_bind : {A B : Type 0} (o : Option A) (f g : A → Option B) → ((x : A) → o ≡ Some x → f x ≡ g x) → (o >>= f) ≡ (o >>= g)
same_bind None f g h = refl
same_bind (Some x) f g h = h x refl

-- No value is given if any would be absurd.
pub none_of : {A : Type 0} (o : Option A) → ((x : A) → o ≡ Some x → ⊥) → o ≡ None
none_of None h = refl
none_of (Some x) h = absurd (h x refl)
