use Rattle.jsonb_raw.proofs.Lemmas.{rules, ascii_text, text_read, ◌≡◌, ℕ, suc, List, [], ◌∷◌, map, Bool, true, false, Result, Ok, Err, inl, inr, refl, arith, Bor, IsAscii, IsUtf8, codes, OnOk, nat_lt, list_all, to_ascii_lowercase, nat_tests, IsUtf8-from_ascii, IsAscii-nil, IsAscii-cons, IsRootShape, Error, Text, Boolean, IsBoolOf, Casts, HasRoot}
use Rattle.jsonb_doc.specs.declared.shape.Shape.TheVariants.{Boolean as BooleanShape}
use Rattle.jsonb_doc.specs.Tree as spec
use Rattle.jsonb_raw.proofs.raw.RawJsonb.to_bool.Goals as goal

ascii_bytes : (s : List ℕ) → IsAscii (map to_ascii_lowercase s) → IsAscii s
ascii_bytes [] h = IsAscii-nil
ascii_bytes (b ∷ s) h = IsAscii-cons b s (grind (arith, nat_tests, h 0)) (ascii_bytes s (λ i. h (suc i)))

-- a string that spells a word of ASCII is ASCII
spelled : (word s : List ℕ) → list_all (λ b. nat_lt b 128) word ≡ true → map to_ascii_lowercase s ≡ word → IsUtf8 s
spelled word s all e = IsUtf8-from_ascii s (ascii_bytes s (rw e (ascii_text word all)))

spelled_bool : (b : Bool) (s : List ℕ) → IsBoolOf (spec.text s) b → IsUtf8 s
spelled_bool true s (inl e) = spelled (codes "true") s refl e
spelled_bool true s (inr e) = spelled (codes "yes") s refl e
spelled_bool false s (inl e) = spelled (codes "false") s refl e
spelled_bool false s (inr e) = spelled (codes "no") s refl e

-- a string root that spells a Boolean is UTF-8
text_root : (bytes : List ℕ) (s : Bor (List ℕ)) (r : Result Bool Error) → IsRootShape bytes (Text s) → Casts (IsBoolOf (spec.text s.now)) r
    → OnOk r (HasRoot bytes)
text_root bytes s (Err e) h cast = tt
text_root bytes s (Ok b) h cast = text_read bytes s h (spelled_bool b s.now cast)

boolean_root : (bytes : List ℕ) (b : Bool) → IsRootShape bytes (BooleanShape b) → HasRoot bytes
boolean_root bytes b h = (Boolean b, h)

pub returns-in-Boolean-clause-reads : goal.returns-in-Boolean-clause-reads
returns-in-Boolean-clause-reads c =
    rw c.as_bytes.ensures at (boolean_root c.as_bytes.result.now c.in-Boolean.value (rw c.in-Boolean.is at c.in_ok-value.ensures.readable))

pub returns-in-Text-clause-reads : goal.returns-in-Text-clause-reads
returns-in-Text-clause-reads c = search (rules, text_root)
