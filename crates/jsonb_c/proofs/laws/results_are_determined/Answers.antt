use Rattle.std.proofs.Common.{◌≡◌, ◌∙◌, sym, subst, inl, inr, ℕ, List, [], ◌∷◌, Some, None, Ok, Err, IfOk}
use Rattle.jsonb_c.specs.Answers.{Delivers, DeliversBytes, Found, Shows}
use Rattle.jsonb_c.specs.Status.{code}
use Rattle.jsonb_c.specs.declared.status.Status.TheVariants.{Answered}
use Rattle.jsonb_c.proofs.WithinLemmas.{refused}
use Rattle.jsonb_c.proofs.laws.results_are_determined.Goals as goal

one_value : {A : Type 0} {x new other : A} {cause status other_status : ℕ} → (new ≡ x) × (status ≡ cause)
    → (other ≡ x) × (other_status ≡ cause) → (other ≡ new) × (other_status ≡ status)
one_value h k = (k.0 ∙ sym h.0, k.1 ∙ sym h.1)

nothing : {old new other : List ℕ} {cause len other_len status other_status : ℕ}
    → (len ≡ 0) × (new ≡ old) × (status ≡ cause) → (other_len ≡ 0) × (other ≡ old) × (other_status ≡ cause)
    → (other ≡ new) × (other_len ≡ len) × (other_status ≡ status)
nothing h k = (k.1 ∙ sym h.1, k.0 ∙ sym h.0, k.2 ∙ sym h.2)

some_bytes : (made old new other : List ℕ) (len other_len status other_status : ℕ)
    → DeliversBytes old new len status made → DeliversBytes old other other_len other_status made
    → (other ≡ new) × (other_len ≡ len) × (other_status ≡ status)
some_bytes made old new other len other_len status other_status (l, inl h) (m, inl k) =
    (k.1.0.1 ∙ sym h.1.0.1, m ∙ sym l, k.0 ∙ sym h.0)
some_bytes made old new other len other_len status other_status (l, inr h) (m, inr k) =
    let unchanged : new ∷ [] ≡ old ∷ [] = h.2 in let kept : other ∷ [] ≡ old ∷ [] = k.2 in
    let same : other ≡ new = cc in (same, m ∙ sym l, k.0 ∙ sym h.0)
some_bytes made old new other len other_len status other_status (l, inl h) (m, inr k) = absurd (k.1 (h.1.0.0, tt))
some_bytes made old new other len other_len status other_status (l, inr h) (m, inl k) = absurd (h.1 (k.1.0.0, tt))

bytes : (answer : Found (List ℕ)) (old new other : List ℕ) (len other_len status other_status : ℕ)
    → Delivers old new len status answer → Delivers old other other_len other_status answer
    → (other ≡ new) × (other_len ≡ len) × (other_status ≡ status)
bytes (Ok (Some made)) old new other len other_len status other_status h k =
    some_bytes made old new other len other_len status other_status h k
bytes (Ok None) old new other len other_len status other_status h k = nothing h k
bytes (Err e) old new other len other_len status other_status h k = nothing h k

found : {A : Type 0} (answer : Found A) (old new other : A) (status other_status : ℕ)
    → Shows old new status answer → Shows old other other_status answer
    → (other ≡ new) × (other_status ≡ status)
found (Ok (Some x)) old new other status other_status h k = one_value h k
found (Ok None) old new other status other_status h k = one_value h k
found (Err e) old new other status other_status h k = one_value h k

successes : (r s : Found (List ℕ)) (old new other : List ℕ) (len other_len : ℕ)
    → IfOk r (λ x. IfOk s (λ y. y ≡ x))
    → Delivers old new len (code Answered) r → Delivers old other other_len (code Answered) s
    → (other ≡ new) × (other_len ≡ len)
successes (Ok x) (Ok y) old new other len other_len same h k =
    let both = bytes (Ok x) old new other len other_len _ _ h
    (subst (λ it. Delivers old other other_len (code Answered) (Ok it)) same k) in (both.0, both.1)
successes (Ok x) (Err e) old new other len other_len same h k = absurd (refused e (sym k.2))
successes (Err e) s old new other len other_len same h k = absurd (refused e (sym h.2))

pub returns-clause-bytes : goal.returns-clause-bytes
returns-clause-bytes g c = bytes

pub returns-clause-found : goal.returns-clause-found
returns-clause-found g c = found

pub returns-clause-successes : goal.returns-clause-successes
returns-clause-successes g c = successes
