-- From the documents that are made of a selection to what a call returns.
use Rattle.jsonb.proofs.Common.{◌≡◌, List, Option, Result, Ok, Err, ◌⊎◌, inl, inr, sym, IsOkAnd, IsSomeAnd, Outcome, Refines, IsOutOfMemory, ◌or◌when◌, SameOption, Decodes, IsTooLarge, Form, Tree, Error, OutOfMemory, TooLarge, Makes, MakesOption, OwnedJsonb, array_of, arith}

-- one array of the list
pub array_handed : (form : Form) (ts : List Tree) (r : Result OwnedJsonb Error) → Makes form (array_of ts) r
    → Refines (λ made us. Decodes form made (array_of us)) (IsOutOfMemory or TooLarge when IsTooLarge form (array_of ts)) r (Ok ts)
array_handed form ts r h = grind arith

past_of : (form : Form) (wanted : Option Tree) (e : Error) → MakesOption form wanted (Err e)
    → (e ≡ OutOfMemory) ⊎ ((e ≡ TooLarge) × IsSomeAnd wanted (IsTooLarge form))
past_of form wanted e h = grind arith

-- the tree that is picked of the list, if there is one
pub option_handed : (form : Form) (pick : List Tree → Option Tree) (ts : List Tree) (r : Result (Option OwnedJsonb) Error) → MakesOption form (pick ts) r
    → Refines (λ found us. SameOption (Decodes form) found (pick us)) (IsOutOfMemory or TooLarge when IsSomeAnd (pick ts) (IsTooLarge form)) r (Ok ts)
option_handed form pick ts r h = grind (arith, past_of)

-- by the list of a path: what is selected stands for its list
pub handed_by : {A C D : Type 0} {Q : C → D → Type 0} {R : A → D → Type 0} (IsPastLimits : D → Type 0) {c : C} {r : Outcome A} {o : Outcome D}
    → Refines Q IsOutOfMemory (Ok c) o → ((x : D) → Q c x → Refines R (IsOutOfMemory or TooLarge when IsPastLimits x) r (Ok x))
    → Refines R (IsOutOfMemory or TooLarge when IsOkAnd o IsPastLimits) r o
handed_by IsPastLimits h k = grind arith

-- the path fails, or an allocation failed during its evaluation
pub handed_refused : {A C D : Type 0} {Q : C → D → Type 0} (R : A → D → Type 0) (IsPastLimits : D → Type 0) {e : Error} {o : Outcome D}
    → Refines Q IsOutOfMemory (Err e) o → Refines R (IsOutOfMemory or TooLarge when IsOkAnd o IsPastLimits) (Err e) o
handed_refused R IsPastLimits h = record { ok = tt; err = elim h.err [ inl memory ↦ inl (inl memory) | inr is ↦ inr is ] }

-- likewise for an equal result
pub handed_same : {A B : Type 0} (R : A → B → Type 0) (IsPastLimits : B → Type 0) {r s : Outcome A} {o : Outcome B} → s ≡ r
    → Refines R (IsOutOfMemory or TooLarge when IsOkAnd o IsPastLimits) r o → Refines R (IsOutOfMemory or TooLarge when IsOkAnd o IsPastLimits) s o
handed_same R IsPastLimits {o = o} is h = rw (sym is) at h

pub handed_error : {A C D : Type 0} {Q : C → D → Type 0} (R : A → D → Type 0) (IsPastLimits : D → Type 0) {s : Outcome A} {e : Error} {o : Outcome D} → s
    ≡ Err e → Refines Q IsOutOfMemory (Err e) o → Refines R (IsOutOfMemory or TooLarge when IsOkAnd o IsPastLimits) s o
handed_error R IsPastLimits is h = handed_same R IsPastLimits is (handed_refused R IsPastLimits h)
