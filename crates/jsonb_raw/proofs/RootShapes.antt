-- Roots that are known by their shapes.
use Rattle.jsonb_raw.proofs.Common.{◌≡◌, ◌∙◌, ℕ, List, Bor, Result, Ok, Err, OnOk, ⊤, false, arith, refl, ap, inl, inr, IsUtf8, Error, Tree, Form, any, number_reader, Decodes, IsContent, Shape, HasShape, IsNormalShape, IsRootShape, IsRootOf, HasRoot, is_container, deepest, has_text, IsDocument}
use Rattle.jsonb_doc.specs.Tree as spec
use Rattle.jsonb_doc.specs.declared.shape.Shape.TheVariants.{Null, Boolean, Number, Text, Extension, Array, Object}
use Rattle.jsonb_doc.specs.declared.item.Item.TheVariants as item

-- a string of UTF-8 decodes
pub text_read : (bytes : List ℕ) (s : Bor (List ℕ)) → IsRootShape bytes (Text s) → IsUtf8 s.now → HasRoot bytes
text_read bytes s h utf8 =
    let part = h.parts.part in
    let content : IsContent (number_reader any) (spec.text s.now) h.parts.kind h.parts.content = (part.0, part.1, utf8) in
    let root : IsRootOf bytes (item.String s) = (
      spec.text s.now,
      record {
        document = inr (record {
          words = h.words;
          contents = h.contents;
          headed = h.headed;
          parts = record {
            kind = h.parts.kind;
            content = h.parts.content;
            other_words = h.parts.other_words;
            other_contents = h.parts.other_contents;
            begin = h.parts.begin;
            part = (rw part.0 (λ e. cc), content);
            others = h.parts.others;
          };
        });
      },
      refl,
    ) in
    (item.String s, root)

abbrev pub IsNoText : Shape → Type 0
IsNoText (Text s) = ⊥
IsNoText _ = ⊤

-- so does each other root that is read
pub other_read : (bytes : Bor (List ℕ)) (shape : Shape) → IsNoText shape → IsRootShape bytes.now shape → IsNormalShape shape → HasRoot bytes.now
other_read bytes Null other h normal = (item.Null, h)
other_read bytes (Boolean b) other h normal = (item.Boolean b, h)
other_read bytes (Number n) other h normal = (item.Number n, (h.0, h.1, h.2 ∙ ap spec.number normal))
other_read bytes (Text s) other h normal = absurd other
other_read bytes (Extension x) other h normal = (item.Extension x, h)
other_read bytes Array other h normal = (item.Array bytes, (refl, h))
other_read bytes Object other h normal = (item.Object bytes, (refl, h))

-- a result that is only given for bytes with a root
if_read : {T : Type 0} (bytes : List ℕ) (r : Result T Error) → HasRoot bytes → OnOk r (HasRoot bytes)
if_read bytes (Ok x) h = h
if_read bytes (Err e) h = tt

pub text_reads : {T : Type 0} (bytes : List ℕ) (s : Bor (List ℕ)) (r : Result T Error) → IsRootShape bytes (Text s) → OnOk r (IsUtf8 s.now)
    → OnOk r (HasRoot bytes)
text_reads bytes s (Ok x) h utf8 = text_read bytes s h utf8
text_reads bytes s (Err e) h utf8 = tt

pub other_reads : {T : Type 0} (bytes : Bor (List ℕ)) (shape : Shape) (r : Result T Error) → IsNoText shape → IsRootShape bytes.now shape
    → IsNormalShape shape → OnOk r (HasRoot bytes.now)
other_reads bytes shape r other h normal = if_read bytes.now r (other_read bytes shape other h normal)

-- ---- strings

pub text_utf8 : (form : Form) (bytes s : List ℕ) → Decodes form bytes (spec.text s) → IsUtf8 s
text_utf8 form bytes s d = by d.document
  where
    by : IsDocument (number_reader form) (spec.text s) bytes → IsUtf8 s
    by (inl h) = absurd (omega (arith, h.0))
    by (inr h) = let content : IsContent (number_reader form) (spec.text s) h.parts.kind h.parts.content = h.parts.part.1 in content.2

pub plain_shape : (shape : Shape) → ((s : Bor (List ℕ)) → shape ≡ Text s → ⊥) → IsNoText shape
plain_shape (Text s) none = none s refl
plain_shape _ none = tt

-- the tree of a scalar has no parts
pub scalar_tree : (shape : Shape) (t : Tree) → HasShape shape t → (shape ≡ Array → ⊥) → (shape ≡ Object → ⊥) → (is_container t ≡ false) × (deepest t ≡ 0)
scalar_tree shape t is array object = grind arith

-- a root that is neither a string nor a container has no strings
pub no_texts : (shape : Shape) (t : Tree) → HasShape shape t → ((s : Bor (List ℕ)) → shape ≡ Text s → ⊥) → (shape ≡ Array → ⊥) → (shape ≡ Object → ⊥)
    → (name : List ℕ) → has_text name t ≡ false
no_texts (Text s) t is text array object name = absurd (text s refl)
no_texts Array t is text array object name = absurd (array refl)
no_texts Object t is text array object name = absurd (object refl)
no_texts _ t is text array object name = rw is refl
