-- Items: as entries and as documents, and those that are read of any bytes.
use Rattle.jsonb_doc.proofs.Common.{◌≡◌, ◌≢◌, ℕ, ◌<◌, ◌≤◌, ◌^◌, List, length, refl, arith, Bor, Tree, extension, array, object, Form, any, number_reader, number_payload, IsContent, Decodes, content_size, number_view, extension_view, StandsFor, item_content, IsTooLong, item_kind, scalar_bytes, FitsItem, Item, ◌++◌, Result, inl, inr, sym, subst, MatchResult, IfOk, length-append, append-nil, HeadedBy, entry_word, IsContainer, HasFirstEntry, AreNone, HasItsWords, IsItemOf, IsRootOf, AreBytes, IsShapeOf, IsRootShape, HasReadableRoot, Shape, IsCut, kind_number, header_number, HeaderKind, ArrayParts, ObjectParts, StoredEntry, Error, Scalar}
use Rattle.jsonb_doc.specs.declared.item.Item.TheVariants.{Number, Extension, Array, Object}
use Rattle.jsonb_doc.proofs.Containers.{array_document, object_document, HasContent-headed, IsCut-same}
use Rattle.jsonb_doc.proofs.CanonicalLemmas.{entry_decodes, number_back, length-number_payload}
use Rattle.jsonb_doc.proofs.Entries.{kind_below, reads_canonical, reads_written}
use Rattle.jsonb_doc.proofs.LimitLemmas.{size_within}
use Rattle.jsonb_doc.specs.declared.shape.Shape.TheVariants as shapes
use Rattle.jsonb_doc.specs.declared.container.Container.{Container}
use Rattle.jsonb_doc.specs.declared.container.Container.TheVariants.{Array as ArrayOf, Object as ObjectOf}
use Rattle.jsonb_doc.proofs.DecodedFits.{headed_bytes, extension_within}

-- what an item is written as is a content of its tree
pub content_stands : (form : Form) (item : Item) (t : Tree) → StandsFor form item t → FitsItem item
    → IsContent (number_reader form) t (item_kind item) (item_content item)
content_stands form (Number n) t is fits =
    rw is (refl, reads_canonical form (number_payload (number_view n)) (number_view n) (reads_written (number_view n) (number_back (number_view n) fits)))
content_stands form (Array bytes) t (ts, is, decodes) fits = grind (arith, array_document)
content_stands form (Object bytes) t (ps, is, decodes) fits = grind (arith, object_document)
content_stands form _ t is fits = grind arith

-- a content that is too long is that of a tree that is
pub long_content : (form : Form) (item : Item) (t : Tree) → StandsFor form item t → IsTooLong (item_content item) → 2 ^ 28 ≤ content_size form t
long_content form (Number n) t is long = grind (arith, length-number_payload)
long_content form (Array bytes) t (ts, is, decodes) long =
    rw is (omega (arith, size_within form (array ts) 5 bytes.now (array_document (number_reader form) ts bytes.now decodes.document)))
long_content form (Object bytes) t (ps, is, decodes) long =
    rw is (omega (arith, size_within form (object ps) 5 bytes.now (object_document (number_reader form) ps bytes.now decodes.document)))
long_content form _ t is long = grind arith

-- the kind of an item that is not a container
pub scalar_kind : (item : Item) → ((x : Bor (List ℕ)) → item ≡ Array x → ⊥) → ((x : Bor (List ℕ)) → item ≡ Object x → ⊥) → item_kind item ≢ 5
scalar_kind item h e = grind arith

-- the document of the entry of an item that is not a container
pub scalar_decodes : (form : Form) (item : Item) (t : Tree) → item_kind item ≢ 5 → StandsFor form item t → FitsItem item → length (item_content item) < 2 ^ 28
    → Decodes form (scalar_bytes item) t
scalar_decodes form item t scalar is fits short =
    let stands = content_stands form item t is fits in
    let known = kind_below (number_reader form) t (item_kind item) (item_content item) stands in
    record { document = entry_decodes (number_reader form) t _ _ (omega (arith, known)) scalar short stands }

-- a container that is read has a header
pub item_headed : (content : List ℕ) (item : Item) → IsItemOf 5 content item
    → (kind : HeaderKind) × (entries : ℕ) × (rest : List ℕ) × HeadedBy content (header_number kind) entries rest
item_headed content item h = grind (arith, HasContent-headed)

module _ (bytes : List ℕ) where
  -- the entry of a scalar root is not a container, so that its item is all of the document
  cut_decodes : (e : StoredEntry) → IsCut bytes (Scalar e) → (t : Tree) → IsContent (number_reader any) t (kind_number e.kind) e.content.now → Decodes
      any bytes t
  cut_decodes e cut t h = record { document = (IsCut-same bytes (Scalar e) cut (number_reader any) t).1 (cut.2.scalar, h) }

  pub scalar_read : (e : StoredEntry) → IsCut bytes (Scalar e) → (Q : Error → Type 0) → (r : Result Item Error)
      → MatchResult r (IsItemOf (kind_number e.kind) e.content.now) Q → IfOk r (IsRootOf bytes)
  scalar_read e h Q r k = grind (arith, cut_decodes)

  pub array_root : (p : ArrayParts) → IsCut bytes (ArrayOf p) → HasItsWords 4 4 bytes
  array_root p (n, h, len) = (n, p.words.now ++ p.contents.now, h, omega (arith, len, length-append p.words.now p.contents.now))

  pub object_root : (p : ObjectParts) → IsCut bytes (ObjectOf p) → HasItsWords 2 8 bytes
  object_root p h = grind (arith, length-append)

  -- one entry that is not a container
  lone_root : (e : StoredEntry) → IsCut bytes (Scalar e) → (IsPart : ℕ → List ℕ → Type 0) → IsPart (kind_number e.kind) e.content.now
      → IsContainer 1 0 (HasFirstEntry IsPart AreNone) bytes
  lone_root e (rest, headed, lone) IsPart part =
      record {
        words = entry_word (kind_number e.kind) (length e.content.now);
        contents = e.content.now;
        headed = subst (HeadedBy bytes 1 0) lone.start.joined headed;
        parts = grind (arith, append-nil);
      }

  -- a root that is cut into its parts can be read
  pub readable_root : (root : Container) → IsCut bytes root → HasReadableRoot bytes
  readable_root (ArrayOf p) cut = inl (array_root p cut)
  readable_root (ObjectOf p) cut = inr (inl (object_root p cut))
  readable_root (Scalar e) cut = inr (inr (lone_root e cut (λ kind content. kind ≢ 5) cut.2.scalar))

  lone_bytes : AreBytes bytes → (e : StoredEntry) → IsCut bytes (Scalar e) → AreBytes e.content.now
  lone_bytes all e (rest, headed, lone) = headed_bytes bytes 1 0 (entry_word (kind_number e.kind) (length e.content.now)) e.content.now
      (subst (HeadedBy bytes 1 0) lone.start.joined headed) all

  scalar_shape : AreBytes bytes → (e : StoredEntry) → IsCut bytes (Scalar e) → (shape : Shape)
      → IsShapeOf (kind_number e.kind) e.content.now shape → IsRootShape bytes shape
  scalar_shape all e cut (shapes.Text s) h = lone_root e cut (λ kind content. (kind ≡ 1) × (content ≡ s.now)) (h.0, sym h.1)
  scalar_shape all e cut (shapes.Extension x) h =
      let read = extension_within e.content.now (extension_view x) (lone_bytes all e cut) h.1 in
      (extension (extension_view x), cut_decodes e cut (extension (extension_view x)) (h.0, read.0, read.1), refl)
  scalar_shape all e cut shape h = grind (arith, cut_decodes)

  pub shape_root : AreBytes bytes → (e : StoredEntry) → IsCut bytes (Scalar e) → (r : Result Shape Error)
      → IfOk r (IsShapeOf (kind_number e.kind) e.content.now) → IfOk r (IsRootShape bytes)
  shape_root h e k r f = grind (arith, scalar_shape)
