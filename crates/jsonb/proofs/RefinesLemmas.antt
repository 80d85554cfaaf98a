-- Results that refine meanings: what the result for a part says of the whole.
use Rattle.jsonb.proofs.Common.{◌≡◌, ◌⊎◌, List, [], ◌∷◌, ◌++◌, Option, Some, None, option_map, Result, Ok, Err, OnOk, IfErr, IsOkAnd, IsErrAnd, refl, inl, inr, subst, sym, append-nil, length, map, rules, not, ◌==◌, Outcome, and_then, Refines, SameOption, IsOutOfMemory, Error, Tree, AllZip, is_some, first_item, list_or, Mode, arith}

-- ---- related lists

pub AllZip-append : {A B : Type 0} (R : A → B → Type 0) (xs ys : List A) (us vs : List B) → AllZip R xs us → AllZip R ys vs → AllZip R (xs ++ ys) (us ++ vs)
AllZip-append R [] ys [] vs p q = q
AllZip-append R (x ∷ xs) ys (u ∷ us) vs p q = (p.0, AllZip-append R xs ys us vs p.1 q)
AllZip-append R _ ys _ vs p q = absurd p

-- related lists are empty together
pub some_related : {A : Type 0} (R : A → Tree → Type 0) (xs : List A) (ts : List Tree) → AllZip R xs ts → not (length xs == 0) ≡ is_some (first_item ts)
some_related R [] [] h = refl
some_related R (x ∷ xs) (t ∷ ts) h = search rules
some_related R _ _ h = absurd h

-- what each member is, one by one or as a list
abbrev pub Is : {A B : Type 0} → (A → B) → A → B → Type 0
Is f x y = f x ≡ y

pub related_of_map : {A B : Type 0} (f : A → B) (xs : List A) (ys : List B) → map f xs ≡ ys → AllZip (Is f) xs ys
related_of_map {A} f xs ys is = subst (λ l. AllZip (Is f) xs l) is (each xs)
  where
    each : (l : List A) → AllZip (Is f) l (map f l)
    each [] = tt
    each (x ∷ l) = (refl, each l)

-- ---- what is pushed after a list of nodes

pub pushed_all : {A B : Type 0} (R : A → B → Type 0) (r : Result (Unit {0}) Error) (old new more : List A) (before us : List B) → OnOk r (new ≡ old ++ more) →
    IfErr r IsOutOfMemory → AllZip R old before → AllZip R more us → Refines (λ _ ts. AllZip R new (before ++ ts)) IsOutOfMemory r (Ok us)
pushed_all R r old new more before us is none a h = grind (arith, AllZip-append)

pub pushed : {A B : Type 0} (R : A → B → Type 0) (r : Result (Unit {0}) Error) (old new : List A) (x : A) (before : List B) (u : B) →
    OnOk r (new ≡ old ++ x ∷ []) → IfErr r IsOutOfMemory → AllZip R old before → R x u →
    Refines (λ _ ts. AllZip R new (before ++ ts)) IsOutOfMemory r (Ok (u ∷ []))
pushed R r old new x before u is none a h = pushed_all R r old new (x ∷ []) before (u ∷ []) is none a (h, tt)

-- nothing
pub unchanged : {A B : Type 0} (R : A → B → Type 0) (xs : List A) (before : List B) → AllZip R xs before →
    Refines {A = Unit {0}} (λ _ ts. AllZip R xs (before ++ ts)) IsOutOfMemory (Ok tt) (Ok [])
unchanged R xs before a = record { ok = rw (sym (append-nil before)) at a; err = tt }

-- ---- two parts, one after the other

-- the same result at an equal outcome
pub same_outcome : {A B : Type 0} {R : A → B → Type 0} {r : Outcome A} {o p : Outcome B} → p ≡ o → Refines R IsOutOfMemory r o → Refines R IsOutOfMemory r p
same_outcome {A} {B} {R} {r} e h = rw (sym e) at h

-- the same outcome of an equal result
pub same_answer : {A B : Type 0} {R : A → B → Type 0} {r s : Outcome A} {o : Outcome B} → s ≡ r → Refines R IsOutOfMemory r o → Refines R IsOutOfMemory s o
same_answer {A} {B} {R} {r} {s} {o} e h = rw (sym e) at h

-- the error that `?` returns
pub err_is : {T : Type 0} {e : Error} {r : Result T Error} → IsErrAnd r (λ d. d ≡ e) → r ≡ Err e
err_is h = grind arith

pub failed_as : {A B : Type 0} {R : A → B → Type 0} {e : Error} {s : Outcome A} {o : Outcome B} → IsErrAnd s (λ d. d ≡ e) → Refines R IsOutOfMemory (Err e) o
    → Refines R IsOutOfMemory s o
failed_as h g = same_answer (err_is h) g

pub answered : {A B : Type 0} {R : A → B → Type 0} {E : Error → Type 0} {x : A} {o : Outcome B} → IsOkAnd o (R x) → Refines R E (Ok x) o
answered h = record { ok = h; err = tt }

pub refused : {A B : Type 0} {R : A → B → Type 0} {E : Error → Type 0} {e : Error} {o : Outcome B} → E e ⊎ (o ≡ Err e) → Refines R E (Err e) o
refused h = record { ok = tt; err = h }

pub failed_with : {A B : Type 0} {R : A → B → Type 0} {e : Error} {s : Outcome A} {o : Outcome B} → IsErrAnd s (λ d. d ≡ e) → IsOutOfMemory e ⊎ (o ≡ Err e)
    → Refines R IsOutOfMemory s o
failed_with h g = failed_as h (refused g)

-- what holds of a list that is known
pub on_ok : {A B : Type 0} (P : List B → Type 0) (r : Outcome A) (ts : List B) → Refines (λ _ us. P us) IsOutOfMemory r (Ok ts) → OnOk r (P ts)
on_ok P r ts h = grind arith

-- a value that is known
pub one_given : {A B : Type 0} (R : A → List B → Type 0) (ts : List B) {x : A} → R x ts → Refines R IsOutOfMemory (Ok x) (Ok ts)
one_given R ts h = record { ok = h; err = tt }

-- an error, whatever the values would be
pub refused_as : {A B C : Type 0} {R : A → B → Type 0} {Q : C → B → Type 0} {e : Error} {o : Outcome B} → Refines R IsOutOfMemory (Err e) o
    → Refines Q IsOutOfMemory (Err e) o
refused_as h = record { ok = tt; err = h.err }

-- a value is never an error
pub memory_only : {B P : Type 0} {e : Error} {x : B} → IsOutOfMemory e ⊎ (◌≡◌ {A = Outcome B} (Ok x) (Err e)) → IsOutOfMemory e ⊎ P
memory_only h = elim h [ inl memory ↦ inl memory | inr is ↦ absurd (cc) ]

pub only_memory : {A B C D : Type 0} {R : A → B → Type 0} {Q : C → D → Type 0} {e : Error} {x : B} {y : D} → Refines R IsOutOfMemory (Err e) (Ok x)
    → Refines Q IsOutOfMemory (Err e) (Ok y)
only_memory h = record { ok = tt; err = memory_only h.err }

-- a value of the first part goes on
pub with_ok : {B D : Type 0} (P : B → Type 0) (Q : Outcome D → Type 0) (o : Outcome B) (next : B → Outcome D) → IsOkAnd o P → ((y : B) → P y → Q (next y))
    → Q (and_then o next)
with_ok P Q o next h go = grind arith

-- what a first part with a value leaves to the rest
pub continued : {B C : Type 0} (P : B → Type 0) (o : Outcome B) (next : B → Outcome C) → IsOkAnd o P → (us : B) × P us × (and_then o next ≡ next us)
continued P (Ok us) next h = (us, h, refl)
continued P (Err e) next h = absurd h

-- an error of the first part is that of the whole
pub first_refused : {A B C D : Type 0} {R : A → B → Type 0} {S : C → D → Type 0} {e : Error} {o : Outcome B} (next : B → Outcome D) →
    Refines R IsOutOfMemory (Err e) o → Refines S IsOutOfMemory (Err e) (and_then o next)
first_refused next h = grind arith

-- a value of the first part, and the result of what follows
pub followed : {A B C D : Type 0} {R : A → B → Type 0} {S : C → D → Type 0} {x : A} {r : Outcome C} {o : Outcome B} (next : B → Outcome D) →
    Refines R IsOutOfMemory (Ok x) o → ((a : B) → R x a → Refines S IsOutOfMemory r (next a)) → Refines S IsOutOfMemory r (and_then o next)
followed {R = R} {S = S} {x = x} {r = r} {o = o} next h go = with_ok (R x) (λ w. Refines S IsOutOfMemory r w) o next h.ok go

pub one_ok : {A B C D : Type 0} {R : A → B → Type 0} {S : C → D → Type 0} {x : A} {z : C} {o : Outcome B} (next : B → Outcome D) →
    Refines R IsOutOfMemory (Ok x) o → ((a : B) → R x a → IsOkAnd (next a) (S z)) → Refines S IsOutOfMemory (Ok z) (and_then o next)
one_ok next h k = grind (arith, with_ok)

pub second_refused : {A B C D E F : Type 0} {R : A → B → Type 0} {Q : C → D → Type 0} {S : E → F → Type 0} {x : A} {e : Error} {o : Outcome B} {p : Outcome D}
    (next : B → D → Outcome F) →
    Refines R IsOutOfMemory (Ok x) o → Refines Q IsOutOfMemory (Err e) p → Refines S IsOutOfMemory (Err e) (and_then o (λ a. and_then p (next a)))
second_refused next h k = grind (arith, with_ok, first_refused)

-- by the value of a first part
pub given_by : {A C D : Type 0} {Q : C → D → Type 0} {R : A → D → Type 0} {c : C} {r : Outcome A} {o : Outcome D} → Refines Q IsOutOfMemory (Ok c) o
    → ((x : D) → Q c x → Refines R IsOutOfMemory r (Ok x)) → Refines R IsOutOfMemory r o
given_by h k = grind arith

-- ---- what was found: the value under a key, the children of a container

module _ {A V : Type 0} {S : A → List Tree → Type 0} {r : Outcome A} (mode : Mode) (otherwise : List Tree) (R : V → List Tree → Type 0) where
  pub listed : (g : List Tree → List Tree) (v : V) (o : Option (List Tree)) → SameOption R (Some v) o →
      ((us : List Tree) → R v us → Refines S IsOutOfMemory r (Ok (g us))) → Refines S IsOutOfMemory r (list_or mode otherwise (option_map g o))
  listed g v o h go = grind arith

  pub listed_itself : (v : V) (o : Option (List Tree)) → SameOption R (Some v) o → ((us : List Tree) → R v us → Refines S IsOutOfMemory r (Ok us))
      → Refines S IsOutOfMemory r (list_or mode otherwise o)
  listed_itself v o h go = grind arith

  pub unlisted : (o : Option (List Tree)) → SameOption R None o → Refines S IsOutOfMemory r (list_or mode otherwise None)
      → Refines S IsOutOfMemory r (list_or mode otherwise o)
  unlisted o h g = grind arith

-- nothing that was found
pub none_found : {A V T : Type 0} {S : A → List Tree → Type 0} {r : Outcome A} (mode : Mode) (otherwise : List Tree) (R : V → T → Type 0)
    (g : T → List Tree) (o : Option T) →
    SameOption R None o → Refines S IsOutOfMemory r (list_or mode otherwise None) → Refines S IsOutOfMemory r (list_or mode otherwise (option_map g o))
none_found mode otherwise R g o h given = grind arith
