-- Containers, by their headers.
use Rattle.jsonb_doc.proofs.Common.{◌≡◌, ◌≢◌, ℕ, suc, ◌*◌, ◌≤◌, List, [], ◌∷◌, ◌++◌, length, take, drop, refl, sym, ap, ◌∙◌, arith, true, ◌↔◌, ◌⊎◌, inl, inr, length-append, take_at, drop_at, append-nil, Tree, boolean, array, object, Trees, no_trees, tree, Pairs, no_pairs, pair, count, keys, values, NumberReader, Form, number_reader, Holds, HasPairParts, IsLoneEntry, IsCut, HoldKeys, kind_number, header_number, HeaderKind, StoredEntry, ArrayParts, ObjectParts, Array, Object, Decodes, HeadedBy, BeginWith, entry_word, AreMembers, AreKeys, key_words, key_bytes, IsContent, AreEntries, AreValues, IsDocument, HasContent, HasEntries, HasDocument, HasKeys, common_steps, Scalar, append_assoc}
use Rattle.jsonb_doc.specs.declared.layout.HeaderKind.TheVariants as header
use Rattle.jsonb_doc.specs.declared.container.Container.{Container}
use Rattle.jsonb_doc.specs.Format.{IsContainer as FormatContainer}
use Rattle.jsonb_doc.proofs.WordLemmas.{word_cancel, append_cancel}
use Rattle.jsonb_doc.proofs.Entries.{BeginWith-unique, Entry-join}

-- a header is one
pub HeadedBy-unique : (bytes : List ℕ) (k k' n n' : ℕ) (rest rest' : List ℕ) → HeadedBy bytes k n rest → HeadedBy bytes k' n' rest'
    → (k ≡ k') × (n ≡ n') × (rest ≡ rest')
HeadedBy-unique bytes k k' n n' rest rest' h e = grind (arith, word_cancel)

-- the words are as long as their count states
module _ (number_at : NumberReader) where
  pub length-words : (ts : Trees) (words contents : List ℕ) → AreEntries number_at ts words contents → length words ≡ 4 * count ts
  length-words no_trees words contents h = ap length h.0
  length-words (tree t ts) words contents e = search (arith, length-words ts e.other_words e.other_contents e.others)

  -- the values of pairs are entries, and entries are the values of pairs under as many keys
  pub entries_of : (ps : Pairs) (words contents : List ℕ) → AreValues number_at ps words contents → AreEntries number_at (values ps) words contents
  entries_of no_pairs words contents h = h
  entries_of (pair key t ps) words contents e = search (arith, entries_of ps e.other_words e.other_contents e.others)

  values_of : (ks : List (List ℕ)) (ts : Trees) (words contents : List ℕ) → length ks ≡ count ts → AreEntries number_at ts words contents
      → (ps : Pairs) × (keys ps ≡ ks) × AreValues number_at ps words contents
  values_of [] no_trees words contents same h = (no_pairs, refl, h)
  values_of [] (tree t ts) words contents same h = absurd (omega arith)
  values_of (key ∷ ks) no_trees words contents same h = absurd (omega arith)
  values_of (key ∷ ks) (tree t ts) words contents same e =
      let (ps, is, others) = values_of ks ts e.other_words e.other_contents (omega arith) e.others in
      (pair key t ps, ap (λ (rest : List (List ℕ)). key ∷ rest) is, Entry-join _ _ _ _ _ _ e.begin e.part others)

pub count-values : (ps : Pairs) → count (values ps) ≡ length (keys ps)
count-values no_pairs = refl
count-values (pair key t ps) = ap suc (count-values ps)

pub length-key_words : (ks : List (List ℕ)) → length (key_words ks) ≡ 4 * length ks
length-key_words [] = refl
length-key_words (key ∷ ks) = omega (arith, length-key_words ks)

-- what follows the keys is within
pub HasKeys-room : (words bytes rest : List ℕ) → HasKeys words bytes rest → length rest ≤ length bytes
HasKeys-room words bytes rest (ks, are, is, joined) = omega (arith, ap length joined, length-append (key_bytes ks) rest)

-- keys after as many keys in the same bytes are the same
pub keys_unique : (ks ls : List (List ℕ)) (v v' x x' words bytes : List ℕ) → AreKeys ks → AreKeys ls
    → length ks ≡ length ls
    → words ≡ key_words ks ++ v → words ≡ key_words ls ++ v' → bytes ≡ key_bytes ks ++ x → bytes ≡ key_bytes ls ++ x'
    → (ks ≡ ls) × (v ≡ v') × (x ≡ x')
keys_unique [] [] v v' x x' words bytes p q n e f g h = (refl, sym e ∙ f, sym g ∙ h)
keys_unique (k ∷ ks) (l ∷ ls) v v' x x' words bytes p q n e f g h =
    let first : BeginWith words bytes 1 k (key_words ks ++ v) (key_bytes ks ++ x) = grind (arith, append_assoc) in
    let other : BeginWith words bytes 1 l (key_words ls ++ v') (key_bytes ls ++ x') = grind (arith, append_assoc) in
    let same = BeginWith-unique _ _ _ _ _ _ _ _ _ _ first other in
    grind (arith, same, keys_unique ks ls v v' x x' (key_words ks ++ v) (key_bytes ks ++ x) p.2 q.2)
keys_unique _ _ v v' x x' words bytes p q n e f g h = grind arith

-- what follows the keys is one
pub HasKeys-unique : (words bytes a b : List ℕ) → HasKeys words bytes a → HasKeys words bytes b → a ≡ b
HasKeys-unique words bytes a b (ks, are, is, joined) (ls, are', is', joined') =
    let many : length ks ≡ length ls =
    omega (arith, ap length is, ap length is', length-key_words ks, length-key_words ls) in
    (keys_unique ks ls [] [] a b words bytes are are' many (rw append-nil is) (rw append-nil is') joined joined').2

-- the content of an entry for a container is an array or an object
container_cases : (number_at : NumberReader) (bytes : List ℕ) → HasContent 5 bytes number_at
    → ((ts : Trees) × FormatContainer 4 (count ts) (AreEntries number_at ts) bytes)
    ⊎ ((ps : Pairs) × FormatContainer 2 (length (keys ps)) (AreMembers (keys ps) (AreValues number_at ps)) bytes)
container_cases number_at bytes (array ts, h) = inl (ts, h.1)
container_cases number_at bytes h = grind arith

pub HasContent-headed : (number_at : NumberReader) (bytes : List ℕ) → HasContent 5 bytes number_at
    → (kind : HeaderKind) × (entries : ℕ) × (rest : List ℕ) × HeadedBy bytes (header_number kind) entries rest
HasContent-headed number_at bytes h = elim (container_cases number_at bytes h) [
  | inl a ↦ (header.Array, count a.0, a.1.words ++ a.1.contents, a.1.headed)
  | inr o ↦ (header.Object, length (keys o.0), o.1.words ++ o.1.contents, o.1.headed)
]

module _ (number_at : NumberReader) (bytes : List ℕ) (kind n : ℕ) (rest : List ℕ) (h : HeadedBy bytes kind n rest) where
  pub HasContent-kind : HasContent 5 bytes number_at → (kind ≡ 2) ⊎ (kind ≡ 4)
  HasContent-kind content = elim (container_cases number_at bytes content) [
    | inl a ↦ inr (HeadedBy-unique bytes kind 4 n (count a.0) rest (a.1.words ++ a.1.contents) h a.1.headed).0
    | inr o ↦ grind (arith, HeadedBy-unique)
  ]

-- ---- documents

pub HasDocument-headed : (number_at : NumberReader) (bytes : List ℕ) → HasDocument bytes number_at
    → (kind : HeaderKind) × (entries : ℕ) × (rest : List ℕ) × HeadedBy bytes (header_number kind) entries rest
HasDocument-headed number_at bytes (t, inl h) = HasContent-headed number_at bytes (t, h)
HasDocument-headed number_at bytes (t, inr s) = (header.Scalar, 0, s.words ++ s.contents, s.headed)

module _ (number_at : NumberReader) (bytes : List ℕ) (kind n : ℕ) (rest : List ℕ) (h : HeadedBy bytes kind n rest) where
  -- a document with another header than a scalar's is a container
  pub container_document : kind ≢ 1 → (t : Tree) → IsDocument number_at t bytes → IsContent number_at t 5 bytes
  container_document other t (inl c) = c
  container_document other t (inr s) = grind (arith, HeadedBy-unique)

  -- a document with a scalar's header has one entry
  pub scalar_document : (t : Tree) → kind ≡ 1 → IsDocument number_at t bytes
      → (n ≡ 0) × (4 ≤ length rest) × (k : ℕ) × (content : List ℕ) × BeginWith (take 4 rest) (drop 4 rest) k content [] [] × (k ≢ 5)
      × IsContent number_at t k content
  scalar_document t is (inl c) = grind (arith, HasContent-kind number_at bytes kind n rest h (t, c))
  scalar_document t is (inr s) = grind (arith, HeadedBy-unique, take_at, drop_at, length-append)

module _ (form : Form) (bytes : List ℕ) (kind n : ℕ) (rest : List ℕ) (h : HeadedBy bytes kind n rest) where
  -- a part with the header of an array is an array, and decodes by itself
  pub array_content : (t : Tree) → kind ≡ 4 → IsContent (number_reader form) t 5 bytes → (ts : Trees) × (t ≡ array ts) × Decodes form bytes (array ts)
  array_content (boolean true) is c = absurd (omega arith)
  array_content t is c = grind (arith, HeadedBy-unique)

  pub object_content : (t : Tree) → kind ≡ 2 → IsContent (number_reader form) t 5 bytes → (ps : Pairs) × (t ≡ object ps) × Decodes form bytes (object ps)
  object_content (boolean true) is c = absurd (omega arith)
  object_content t is c = grind (arith, HeadedBy-unique)

-- the document of a container is its content
pub array_document : (number_at : NumberReader) (ts : Trees) (bytes : List ℕ) → IsDocument number_at (array ts) bytes → IsContent number_at (array ts) 5 bytes
array_document number_at ts bytes h = grind arith

pub object_document : (number_at : NumberReader) (ps : Pairs) (bytes : List ℕ) → IsDocument number_at (object ps) bytes
    → IsContent number_at (object ps) 5 bytes
object_document number_at ps bytes h = grind arith

-- ---- documents, by their headers

-- what a document with the header of a scalar holds: one entry
pub record ScalarIn (number_at : NumberReader) (t : Tree) (n : ℕ) (rest : List ℕ) : Type 0 where
  pub none : n ≡ 0
  pub kind : ℕ
  pub content : List ℕ
  pub lone : IsLoneEntry rest kind content
  pub part : IsContent number_at t kind content

-- what one with the header of an array holds
pub record ArrayIn (number_at : NumberReader) (t : Tree) (n : ℕ) (rest : List ℕ) : Type 0 where
  pub ts : Trees
  pub is : t ≡ array ts
  pub words : List ℕ
  pub contents : List ℕ
  pub joined : rest ≡ words ++ contents
  pub counted : length words ≡ 4 * n
  pub entries : AreEntries number_at ts words contents

-- what one with the header of an object holds
pub record ObjectIn (number_at : NumberReader) (t : Tree) (n : ℕ) (rest : List ℕ) : Type 0 where
  pub ps : Pairs
  pub is : t ≡ object ps
  pub value_words : List ℕ
  pub value_contents : List ℕ
  pub joined : rest ≡ (key_words (keys ps) ++ value_words) ++ (key_bytes (keys ps) ++ value_contents)
  pub keys_counted : length (key_words (keys ps)) ≡ 4 * n
  pub values_counted : length value_words ≡ 4 * n
  pub are_keys : AreKeys (keys ps)
  pub values : AreValues number_at ps value_words value_contents

module _ (number_at : NumberReader) (bytes : List ℕ) where
  -- the content of an entry of a container is that of a container alone
  pub container_kind : (t : Tree) (kind : ℕ) (content : List ℕ) → IsContent number_at t 5 bytes → IsContent number_at t kind content → kind ≡ 5
  container_kind (boolean true) kind content h k = absurd (omega (arith, h.0))
  container_kind t kind content h k = grind arith

  module _ (n : ℕ) (rest : List ℕ) where
    pub document_scalar : HeadedBy bytes 1 n rest → (t : Tree) → IsDocument number_at t bytes → ScalarIn number_at t n rest
    document_scalar h t (inl c) = grind (arith, HasContent-kind number_at bytes 1 n rest h (t, c))
    document_scalar h t (inr s) = grind (arith, HeadedBy-unique, append-nil)

    pub document_array : HeadedBy bytes 4 n rest → (t : Tree) → IsContent number_at t 5 bytes → ArrayIn number_at t n rest
    document_array h (boolean true) c = absurd (omega (arith, c.0))
    document_array h t c = grind (arith, HeadedBy-unique, length-words)

    pub document_object : HeadedBy bytes 2 n rest → (t : Tree) → IsContent number_at t 5 bytes → ObjectIn number_at t n rest
    document_object h (object ps) (is, c) =
        let (same_kind, same_n, same_rest) = HeadedBy-unique bytes 2 2 n (length (keys ps)) rest (c.words ++ c.contents) h c.headed in
        let m = c.parts in
        record {
          ps = ps;
          is = refl;
          value_words = m.value_words;
          value_contents = m.value_contents;
          joined = grind arith;
          keys_counted = omega (arith, same_n, length-key_words (keys ps));
          values_counted =
              let more = length-words number_at (values ps) m.value_words m.value_contents (entries_of number_at ps m.value_words m.value_contents m.values) in
              search (arith, same_n, more, count-values ps);
          are_keys = m.are_keys;
          values = m.values;
        }
    document_object h _ c = grind (arith, HeadedBy-unique)

-- ---- documents that are cut

-- the parts of an object are those of its document
object_to : (number_at : NumberReader) (p : ObjectParts) (n : ℕ) → length p.key_words.now ≡ 4 * n → length p.value_words.now ≡ 4 * n → (t : Tree)
    → ObjectIn number_at t n ((p.key_words.now ++ p.value_words.now) ++ p.contents.now) → Holds number_at t (Object p)
object_to number_at p n h e t k = grind (arith, common_steps, length-append, append_cancel)

-- the bytes are a document of a tree if their parts are those of the tree
pub IsCut-same : (bytes : List ℕ) (found : Container) → IsCut bytes found → (number_at : NumberReader) (t : Tree)
    → IsDocument number_at t bytes ↔ Holds number_at t found
IsCut-same bytes (Scalar e) (rest, h, lone) number_at t = (
  λ d.
      let s = document_scalar number_at bytes 0 rest h t d in
      let same : ((kind_number e.kind) ≡ s.kind) × (e.content.now ≡ s.content) = grind (arith, word_cancel, s.lone) in
      (lone.scalar, rw (same.0, same.1) s.part),
  λ k. inr (record {
    words = entry_word (kind_number e.kind) (length e.content.now);
    contents = e.content.now;
    headed = rw (← lone.start.joined) h;
    parts = grind (arith, append-nil);
  }),
)
IsCut-same bytes (Array p) (n, h, len) number_at t =
    grind (arith, append_cancel, document_array, container_document, length-words)
IsCut-same bytes (Object p) (n, h, len, value_len) number_at t = (
  λ d. object_to number_at p n len value_len t (document_object number_at bytes n _ h t (container_document number_at bytes 2 n _ h (omega arith) t d)),
  λ k. inl (grind (arith, length-key_words)),
)

-- a document with the header of an array or an object has as many bytes as its words
module _ (number_at : NumberReader) (bytes : List ℕ) (n : ℕ) (rest : List ℕ) (t : Tree) (d : IsDocument number_at t bytes) where
  pub array_long : HeadedBy bytes 4 n rest → 4 * n ≤ length rest
  array_long h =
      let content = container_document number_at bytes 4 n rest h (omega arith) t d in
      grind (arith, length-append, document_array number_at bytes n rest h t content)

  pub object_long : HeadedBy bytes 2 n rest → 2 * (4 * n) ≤ length rest
  object_long h = search (arith, document_object number_at bytes n rest h t (container_document number_at bytes 2 n rest h (omega arith) t d), length-append)

-- ---- trees by their parts

module _ (number_at : NumberReader) (bytes : List ℕ) where
  -- the document of a tree that is cut into the parts of an array or an object is a container's
  pub IsCut-container : (found : Container) → IsCut bytes found → ((e : StoredEntry) → found ≡ Scalar e → ⊥) → (t : Tree) → IsDocument number_at t bytes
      → IsContent number_at t 5 bytes
  IsCut-container found h e t k = grind (arith, container_document)

  -- the content of an entry of a container is not a scalar document
  pub IsCut-scalar : (e : StoredEntry) → IsCut bytes (Scalar e) → (t : Tree) → IsContent number_at t 5 bytes → ⊥
  IsCut-scalar e cut t c =
      let held = (IsCut-same bytes (Scalar e) cut number_at t).0 (inl c) in
      held.0 (container_kind number_at bytes t (kind_number e.kind) e.content.now c held.1)

module _ (form : Form) (bytes : List ℕ) where
  -- a document that is cut into the parts of an array, or of an object, is one
  pub Holds-elements : (t : Tree) (p : ArrayParts) → Holds (number_reader form) t (Array p) → Decodes form bytes t
      → (ts : Trees) × (t ≡ array ts) × Decodes form bytes (array ts)
  Holds-elements t p h e = grind arith

  pub Holds-pairs : (t : Tree) (p : ObjectParts) → Holds (number_reader form) t (Object p) → Decodes form bytes t
      → (ps : Pairs) × (t ≡ object ps) × Decodes form bytes (object ps)
  Holds-pairs t p h e = grind arith

  -- the parts of a document are those of its tree
  pub Decodes-scalar : (e : StoredEntry) → IsCut bytes (Scalar e) → (t : Tree) → Decodes form bytes t
      → IsContent (number_reader form) t (kind_number e.kind) e.content.now
  Decodes-scalar e cut t h = ((IsCut-same bytes (Scalar e) cut (number_reader form) t).0 h.document).1

  pub Decodes-array : (p : ArrayParts) → IsCut bytes (Array p) → (t : Tree) → Decodes form bytes t → Holds (number_reader form) t (Array p)
  Decodes-array p cut t h = (IsCut-same bytes (Array p) cut (number_reader form) t).0 h.document

  pub Decodes-object : (p : ObjectParts) → IsCut bytes (Object p) → (t : Tree) → Decodes form bytes t → Holds (number_reader form) t (Object p)
  Decodes-object p cut t h = (IsCut-same bytes (Object p) cut (number_reader form) t).0 h.document

-- an object's keys before its values
pub HoldsPairs-keys : (number_at : NumberReader) (ps : Pairs) (p : ObjectParts) → (h : HasPairParts number_at ps p)
    → HoldKeys (keys ps) p.key_words.now p.contents.now h.rest
HoldsPairs-keys number_at ps p h = record { are_keys = h.are_keys; words_joined = h.words; bytes_joined = h.bytes }

-- ---- what decodes at all

module _ (bytes : List ℕ) where
  -- a document decodes if its one entry does, or if it is the content of a container
  pub HasDocument-scalar : (e : StoredEntry) → IsCut bytes (Scalar e) → (number_at : NumberReader)
      → HasContent (kind_number e.kind) e.content.now number_at ↔ HasDocument bytes number_at
  HasDocument-scalar e cut number_at = (
    λ h. (h.0, (IsCut-same bytes (Scalar e) cut number_at h.0).1 (cut.2.scalar, h.1)),
    λ d. (d.0, ((IsCut-same bytes (Scalar e) cut number_at d.0).0 d.1).1),
  )

  -- an array's content decodes if its entries do
  pub HasContent-array : (p : ArrayParts) → IsCut bytes (Array p) → (number_at : NumberReader)
      → HasContent 5 bytes number_at ↔ HasEntries p.words.now p.contents.now number_at
  HasContent-array p cut number_at = (
    λ h. held h.0 ((IsCut-same bytes (Array p) cut number_at h.0).0 (inl h.1)),
    λ h. (array h.0, array_document number_at h.0 bytes ((IsCut-same bytes (Array p) cut number_at (array h.0)).1 h.1)),
  )
    where
      held : (t : Tree) → Holds number_at t (Array p) → HasEntries p.words.now p.contents.now number_at
      held t h = grind arith

  module _ (p : ObjectParts) (cut : IsCut bytes (Object p)) where
    -- an object's content decodes if its keys do, and the entries after them
    found_within : (number_at : NumberReader) → HasContent 5 bytes number_at
        → (rest : List ℕ) × HasKeys p.key_words.now p.contents.now rest × HasEntries p.value_words.now rest number_at
    found_within number_at h = grind (arith, entries_of, (IsCut-same bytes (Object p) cut number_at h.0).0 (inl h.1))

    pub HasContent-keys : (number_at : NumberReader) → ((rest : List ℕ) → HasKeys p.key_words.now p.contents.now rest → ⊥) → HasContent 5 bytes number_at → ⊥
    HasContent-keys number_at none h = let found = found_within number_at h in none found.0 found.1

    object_with : (number_at : NumberReader) (rest : List ℕ) → HasKeys p.key_words.now p.contents.now rest → HasEntries p.value_words.now rest number_at
        → HasContent 5 bytes number_at
    object_with number_at rest (ks, are, words, joined) (ts, entries) =
        let len = length-words number_at ts p.value_words.now rest entries in
        let same : length ks ≡ count ts = omega (arith, len, cut.2, cut.3, ap length words, length-key_words ks) in
        let (ps, same_ks, are_values) = values_of number_at ks ts p.value_words.now rest same entries in
        let held : HasPairParts number_at ps p = record
        { rest = rest; are_keys = rw same_ks are; words = rw same_ks words; bytes = rw same_ks joined; values = are_values } in
        (object ps, object_document number_at ps bytes ((IsCut-same bytes (Object p) cut number_at (object ps)).1 held))

    pub HasContent-object : (rest : List ℕ) → HasKeys p.key_words.now p.contents.now rest → (number_at : NumberReader)
        → HasContent 5 bytes number_at ↔ HasEntries p.value_words.now rest number_at
    HasContent-object rest has number_at = (
      λ h.
          let found = found_within number_at h in
          rw (HasKeys-unique p.key_words.now p.contents.now found.0 rest found.1 has) at found.2,
      object_with number_at rest has,
    )
