-- What is the content of an entry that is not a container, kind by kind.
use Rattle.jsonb_doc.proofs.Common.{◌≡◌, ◌≢◌, ℕ, ◌≤◌, List, [], length, ◌⊎◌, arith, Some, None, true, false, sym, ◌∙◌, ◌↔◌, Result, Ok, Err, refl, rules, IsUtf8, MatchResult, IsOk, IsErrOf, Extension, Tree, null, boolean, number, text, extension, NumberReader, any, number_of, extension_of, number_or_unsupported, is_unsupported, WouldDecode, IsContent, Decodes, HasContent, HasDocument, IsValidationError, Validates, IsNoNumber, Error, InvalidJsonb, UnsupportedNumber}
use Rattle.jsonb_doc.specs.Number as spec
use Rattle.jsonb_doc.proofs.Entries.{kind_below, document_lenient}
use Rattle.jsonb_doc.proofs.ExtensionsRead.{extension_back}

module _ (number_at : NumberReader) (kind : ℕ) (bytes : List ℕ) where
  pub empty_only : kind ≢ 1 → kind ≢ 2 → kind ≢ 5 → kind ≢ 6 → HasContent kind bytes number_at → bytes ≡ []
  empty_only p q r s (null, h) = h.1
  empty_only p q r s g = grind arith

  -- null and Booleans have no content
  pub constant_empty : (t : Tree) → IsContent number_at t kind bytes → (kind ≡ 0) ⊎ ((kind ≡ 3) ⊎ (kind ≡ 4)) → length bytes ≡ 0
  constant_empty t h e = grind (arith, empty_only)

  pub null_content : (t : Tree) → kind ≡ 0 → IsContent number_at t kind bytes → t ≡ null
  null_content (boolean true) is h = absurd (omega arith)
  null_content t is h = grind arith

  pub false_content : (t : Tree) → kind ≡ 3 → IsContent number_at t kind bytes → t ≡ boolean false
  false_content (boolean true) is h = absurd (omega arith)
  false_content t is h = grind arith

  pub true_content : (t : Tree) → kind ≡ 4 → IsContent number_at t kind bytes → t ≡ boolean true
  true_content (boolean false) is h = absurd (omega arith)
  true_content t is h = grind arith

  pub text_content : (t : Tree) → kind ≡ 1 → IsContent number_at t kind bytes → (t ≡ text bytes) × IsUtf8 bytes
  text_content (boolean true) is h = absurd (omega arith)
  text_content t is h = grind arith

  pub number_content : (t : Tree) → kind ≡ 2 → IsContent number_at t kind bytes → (n : spec.Number) × (t ≡ number n) × (number_at bytes ≡ Some n)
  number_content (boolean true) is h = absurd (omega arith)
  number_content t is h = grind arith

  pub extension_content : (t : Tree) → kind ≡ 6 → IsContent number_at t kind bytes → (x : Extension) × (t ≡ extension x) × (extension_of bytes ≡ Some x)
  extension_content (boolean true) is h = absurd (omega arith)
  extension_content t is h = grind (arith, extension_back)

  pub text_only : kind ≡ 1 → HasContent kind bytes number_at → IsUtf8 bytes
  text_only is (t, h) = (text_content t is h).1

  pub number_only : kind ≡ 2 → HasContent kind bytes number_at → (n : spec.Number) × (number_at bytes ≡ Some n)
  number_only is (t, h) = let found = number_content t is h in (found.0, found.2)

  pub extension_only : kind ≡ 6 → HasContent kind bytes number_at → (x : Extension) × (extension_of bytes ≡ Some x)
  extension_only is (t, h) = let found = extension_content t is h in (found.0, found.2)

  pub known_only : 7 ≤ kind → HasContent kind bytes number_at → ⊥
  known_only h content = omega (arith, kind_below number_at content.0 kind bytes content.1)

-- an empty content of a kind that has no other
pub empty_judged : (kind : ℕ) (bytes : List ℕ) (t : Tree) {A : Type 0} (r : Result A Error) → kind ≢ 1 → kind ≢ 2 → kind ≢ 5 → kind ≢ 6
    → (bytes ≡ [] → IsContent number_of t kind bytes) → MatchResult r (λ _. bytes ≡ []) (λ e. (e ≡ InvalidJsonb) × (bytes ≢ []))
    → Validates (HasContent kind bytes) r
empty_judged kind bytes t (Ok x) p q r s is e = (t, is e)
empty_judged kind bytes t (Err e) p q r s is fails =
    rw fails.0 (λ h. fails.1 (empty_only number_or_unsupported kind bytes p q r s h))

pub unsupported_is : (bytes : List ℕ) → is_unsupported bytes ≡ true → number_of bytes ≡ None → (n : spec.Number) × (number_or_unsupported bytes ≡ Some n)
unsupported_is bytes holds fails = (spec.zero_number, rw (fails, holds) refl)

pub number_refused : (kind : ℕ) (bytes : List ℕ) (e : Error) → kind ≡ 2 → IsNoNumber bytes e → IsValidationError (HasContent kind bytes) e
number_refused kind bytes UnsupportedNumber is fails =
    let n = unsupported_is bytes fails.1 fails.0 in
    (λ h. let some = number_only number_of kind bytes is h in let all : None ≡ Some some.0 = sym fails.0 ∙ some.1 in cc, (number n.0, (is, n.1)))
number_refused kind bytes InvalidJsonb is fails =
    λ h. let some = number_only number_or_unsupported kind bytes is h in let all : None ≡ Some some.0 = rw (fails.0, fails.1) at some.1 in cc
number_refused kind bytes _ is fails = absurd fails

-- what is judged of a fact is judged of another that is as good
pub Validates-along : {A : Type 0} (P Q : NumberReader → Type 0) → ((number_at : NumberReader) → P number_at ↔ Q number_at) → (r : Result A Error)
    → Validates P r → Validates Q r
Validates-along P Q h r e = grind arith

pub some_injective : {A : Type 0} {x y : A} → Some x ≡ Some y → x ≡ y
some_injective e = cc

pub number_fails : (bytes : List ℕ) (e : Error) → IsNoNumber bytes e → number_of bytes ≡ None
number_fails bytes e h = grind arith

-- what the check of a document states for each result
pub Validates-exact : {A : Type 0} (bytes : List ℕ) (r : Result A Error) → Validates (HasDocument bytes) r
    → (IsOk r ↔ ((t : Tree) × Decodes any bytes t))
    × (IsErrOf r UnsupportedNumber ↔ (((t : Tree) → Decodes any bytes t → ⊥) × ((t : Tree) × WouldDecode bytes t)))
    × (IsErrOf r InvalidJsonb ↔ ((t : Tree) → WouldDecode bytes t → ⊥))
Validates-exact bytes (Ok x) h = (
  (λ e. (h.0, record { document = h.1 }), λ e. search rules),
  (λ e. absurd (search rules), λ p. absurd (p.0 h.0 (record { document = h.1 }))),
  (λ e. absurd (search rules), λ p. absurd (p h.0 (document_lenient h.0 bytes h.1))),
)
Validates-exact bytes (Err UnsupportedNumber) h = (
  (λ e. absurd (search rules), λ d. absurd (h.0 (d.0, d.1.document))),
  (λ e. (λ t d. h.0 (t, d.document), h.1), λ p. search rules),
  (λ e. absurd (cc), λ p. absurd (p h.1.0 h.1.1)),
)
Validates-exact bytes (Err InvalidJsonb) h = (
  (λ e. absurd (search rules), λ d. absurd (h (d.0, document_lenient d.0 bytes d.1.document))),
  (λ e. absurd (cc), λ p. absurd (h p.1)),
  (λ e t d. h (t, d), λ p. search rules),
)
Validates-exact bytes (Err _) h = absurd h
