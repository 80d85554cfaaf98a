-- How much of its input a rule reads.
use Rattle.jsonb_keypath.proofs.Common.{◌≡◌, ℕ, zero, suc, ◌<◌, ◌≤◌, List, [], ◌∷◌, length, Bool, true, false, Some, None, refl, sym, ap, ◌∙◌, subst, arith, nat_lt, option_and_then, option_or, same_Some, Decides-ltb, Parsed, Rule, give, ◌>>=◌, ◌>>◌, ◌</>◌, parsed_map, only_if, turn, up_to, repeat, ReadsSome, IsRun}
use Rattle.jsonb_keypath.proofs.RepeatLemmas.{enough, repeat-goes, repeat-ends}

-- the rest is no longer than the input
abbrev pub NeverGrows : {A : Type 0} → Rule A → Type 0
NeverGrows {A} rule = (input : List ℕ) (a : A) (rest : List ℕ) → rule input ≡ Some (a, rest) → length rest ≤ length input

-- ---- the parts of a sequence that succeeds

pub parts : {A B : Type 0} (rule : Rule A) (next : A → Rule B) (input : List ℕ) (b : B) (rest : List ℕ) → (rule >>= next) input ≡ Some (b, rest) →
    (a : A) × (middle : List ℕ) × (rule input ≡ Some (a, middle)) × (next a middle ≡ Some (b, rest))
parts {A} {B} rule next input b rest e = go (rule input) refl e where
  go : (o : Parsed A) → rule input ≡ o → option_and_then (λ (p : A × List ℕ). next p.0 p.1) o ≡ Some (b, rest) →
      (a : A) × (middle : List ℕ) × (rule input ≡ Some (a, middle)) × (next a middle ≡ Some (b, rest))
  go None at e' = cc
  go (Some p) at e' = (p.0, p.1, at, e')

pub given : {A : Type 0} (a b : A) (input rest : List ℕ) → give a input ≡ Some (b, rest) → (a ≡ b) × (input ≡ rest)
given {A} a b input rest e = let same = same_Some (a, input) (b, rest) e in (ap (λ (p : A × List ℕ). p.0) same, ap (λ (p : A × List ℕ). p.1) same)

pub passed : {B : Type 0} (test : Bool) (next : Rule B) (input : List ℕ) (b : B) (rest : List ℕ) → (only_if test >> next) input ≡ Some (b, rest) →
    (test ≡ true) × (next input ≡ Some (b, rest))
passed true next input b rest e = (refl, e)
passed false next input b rest e = cc

-- ---- how much the rules read

pub some-no_more : {A : Type 0} (rule : Rule A) → ReadsSome rule → NeverGrows rule
some-no_more rule h input a rest e = let lt = h input a rest e in omega (arith, lt)

pub grows-give : {A : Type 0} (a : A) → NeverGrows (give a)
grows-give a input b rest e = rw (given a b input rest e).1 (omega arith)

pub grows-then : {A B : Type 0} (rule : Rule A) (next : A → Rule B) → NeverGrows rule → ((a : A) → NeverGrows (next a)) → NeverGrows (rule >>= next)
grows-then rule next h k input b rest e =
    let p = parts rule next input b rest e in
    let first = h input p.0 p.1 p.2 in
    let second = k p.0 p.1 b rest p.3 in
    omega (arith, first, second)

pub some-then : {A B : Type 0} (rule : Rule A) (next : A → Rule B) → ReadsSome rule → ((a : A) → NeverGrows (next a)) → ReadsSome (rule >>= next)
some-then rule next h k input b rest e =
    let p = parts rule next input b rest e in
    let first = h input p.0 p.1 p.2 in
    let second = k p.0 p.1 b rest p.3 in
    omega (arith, first, second)

pub then-some : {A B : Type 0} (rule : Rule A) (next : A → Rule B) → NeverGrows rule → ((a : A) → ReadsSome (next a)) → ReadsSome (rule >>= next)
then-some rule next h k input b rest e =
    let p = parts rule next input b rest e in
    let first = h input p.0 p.1 p.2 in
    let second = k p.0 p.1 b rest p.3 in
    omega (arith, first, second)

pub grows-choice : {A : Type 0} (first second : Rule A) → NeverGrows first → NeverGrows second → NeverGrows (first </> second)
grows-choice {A} first second h k input a rest e = go (first input) refl e where
  go : (o : Parsed A) → first input ≡ o → option_or o (second input) ≡ Some (a, rest) → length rest ≤ length input
  go None at e' = k input a rest e'
  go (Some p) at e' = h input a rest (at ∙ e')

pub some-choice : {A : Type 0} (first second : Rule A) → ReadsSome first → ReadsSome second → ReadsSome (first </> second)
some-choice {A} first second h k input a rest e = go (first input) refl e where
  go : (o : Parsed A) → first input ≡ o → option_or o (second input) ≡ Some (a, rest) → length rest < length input
  go None at e' = k input a rest e'
  go (Some p) at e' = h input a rest (at ∙ e')

pub grows-only_if : (test : Bool) → NeverGrows (only_if test)
grows-only_if true input a rest e = rw (given tt a input rest e).1 (omega arith)
grows-only_if false input a rest e = cc

-- ---- repetitions

-- the rule again and again, with these values, until it fails before the rest
abbrev pub IsRepeated : {A : Type 0} → Rule A → List ℕ → List A → List ℕ → Type 0
IsRepeated rule input values rest = IsRun rule input values rest × (rule rest ≡ None)

repeated-up_to : {A : Type 0} (rule : Rule A) (n : ℕ) (input : List ℕ) (values : List A) (rest : List ℕ) → ReadsSome rule → length input < n
    → up_to n rule input ≡ Some (values, rest) → IsRepeated rule input values rest
unfolding up_to
repeated-up_to rule zero input values rest reads lt e = absurd (omega arith)
repeated-up_to {A} rule (suc n) input values rest reads lt e = go (λ middle q r short e'. repeated-up_to rule n middle q r reads (omega (arith, short)) e')
    (rule input) refl e where
      Again : Type 0
      Again = (middle : List ℕ) (found : List A) (end : List ℕ) → length middle < length input → up_to n rule middle ≡ Some (found, end)
          → IsRepeated rule middle found end

      others : Again → (a : A) (middle : List ℕ) → rule input ≡ Some (a, middle) → (o : Parsed (List A)) → up_to n rule middle ≡ o
          → parsed_map (λ (os : List A). a ∷ os) o ≡ Some (values, rest) → IsRepeated rule input values rest
      others again a middle at None e' e'' = cc
      others again a middle at (Some q) e' e'' =
          let same = same_Some (a ∷ q.0, q.1) (values, rest) e'' in
          let behind = again middle q.0 q.1 (reads input a middle at) e' in
          subst (λ (p : List A × List ℕ). IsRepeated rule input p.0 p.1) same ((middle, at, behind.0), behind.1)

      go : Again → (o : Parsed A) → rule input ≡ o → turn (up_to n rule) input o ≡ Some (values, rest) → IsRepeated rule input values rest
      go again None at e' = subst (λ (p : List A × List ℕ). IsRepeated rule input p.0 p.1) (same_Some ([], input) (values, rest) e') (refl, at)
      go again (Some p) at e' =
          let reads_on : nat_lt (length p.1) (length input) ≡ true = (Decides-ltb (length p.1) (length input)).1 (reads input p.0 p.1 at) in
          others again p.0 p.1 at (up_to n rule p.1) refl (rw reads_on at e')

pub repeat-repeated : {A : Type 0} (rule : Rule A) → ReadsSome rule → (input : List ℕ) (values : List A) (rest : List ℕ) → IsRepeated rule input values rest
    → repeat rule input ≡ Some (values, rest)
repeat-repeated {A} rule reads input [] rest h = subst (λ (i : List ℕ). repeat rule i ≡ Some ([], rest)) (sym h.0) (repeat-ends rule rest h.1)
repeat-repeated {A} rule reads input (a ∷ values) rest h =
    repeat-goes rule input a h.0.0 h.0.1 (reads input a h.0.0 h.0.1)
    ∙ ap (parsed_map (λ (others : List A). a ∷ others)) (repeat-repeated rule reads h.0.0 values rest (h.0.2, h.1))

pub repeated-repeat : {A : Type 0} (rule : Rule A) → ReadsSome rule → (input : List ℕ) (values : List A) (rest : List ℕ)
    → repeat rule input ≡ Some (values, rest) → IsRepeated rule input values rest
unfolding repeat
repeated-repeat rule reads input values rest e =
    repeated-up_to rule (suc (length input)) input values rest reads (omega arith)
    (enough rule (suc (length input)) (length input) input (omega arith) (omega arith) ∙ e)
