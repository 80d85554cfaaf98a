-- Bytes decode to one tree, and a tree has one canonical document.
use Rattle.jsonb_doc.proofs.Common.{◌≡◌, ℕ, List, ◌++◌, length, refl, sym, ap, ◌∙◌, arith, true, false, inl, inr, length-append, Tree, null, boolean, number, text, extension, array, object, Trees, no_trees, tree, Pairs, no_pairs, pair, keys, values, NumberReader, key_words, IsContent, AreEntries, AreValues, IsDocument, HeadedBy, append-nil, AreBytes, count, canonical, number_reader, key_bytes, Decodes, kind_of, content, words, contents, value_words, value_contents, document}
use Rattle.jsonb_doc.proofs.WordLemmas.{append_cancel}
use Rattle.jsonb_doc.proofs.Entries.{BeginWith-unique, BeginWith-long, canonical_payload}
use Rattle.jsonb_doc.proofs.ExtensionsRead.{extension_back}
use Rattle.jsonb_doc.proofs.ScalarLemmas.{null_content, false_content, true_content, text_content, number_content, extension_content, some_injective}
use Rattle.jsonb_doc.proofs.Containers.{keys_unique, HeadedBy-unique, length-words, entries_of, count-values, length-key_words, scalar_document}
use Rattle.jsonb_doc.proofs.DecodedFits.{headed_bytes, joined_bytes}

module _ (number_at : NumberReader) where
  mutual
    pub content_unique : (t t' : Tree) (kind : ℕ) (bytes : List ℕ) → IsContent number_at t kind bytes → IsContent number_at t' kind bytes → t ≡ t'
    content_unique null t' kind bytes h g = sym (null_content number_at kind bytes t' h.0 g)
    content_unique (boolean false) t' kind bytes h g = sym (false_content number_at kind bytes t' h.0 g)
    content_unique (boolean true) t' kind bytes h g = sym (true_content number_at kind bytes t' h.0 g)
    content_unique (number n) t' kind bytes h g = grind (arith, number_content, some_injective)
    content_unique (text s) t' kind bytes h g = grind (arith, text_content)
    content_unique (extension x) t' kind bytes h g = grind (arith, extension_content, some_injective, extension_back)
    content_unique (array ts) (array ts') kind bytes h g =
        grind (arith, entries_unique ts ts' h.1.words h.1.contents h.1.parts, HeadedBy-unique, length-words, append_cancel)
    content_unique (array ts) t' kind bytes h g = grind (arith, HeadedBy-unique)
    content_unique (object ps) (object ps') kind bytes h g =
        let a = h.1 in
        let b = g.1 in
        let m = a.parts in
        let m' = b.parts in
        let (same_kind, same_count, same_rest) = HeadedBy-unique bytes 2 2 (length (keys ps)) (length (keys ps')) (a.words ++ a.contents)
        (b.words ++ b.contents) a.headed b.headed in
        let entries = entries_of number_at ps m.value_words m.value_contents m.values in
        let entries' = entries_of number_at ps' m'.value_words m'.value_contents m'.values in
        let len = ap length m.words_joined ∙ length-append (key_words (keys ps)) m.value_words in
        let len' = ap length m'.words_joined ∙ length-append (key_words (keys ps')) m'.value_words in
        let all : length a.words ≡ length b.words =
        let more = length-words number_at (values ps') m'.value_words m'.value_contents entries' in
        let step = length-words number_at (values ps) m.value_words m.value_contents entries in
        omega (arith, len, len', same_count, length-key_words (keys ps), length-key_words (keys ps'), step, more, count-values ps, count-values ps') in
        let (same_words, same_contents) = append_cancel a.words a.contents b.words b.contents all same_rest in
        let (same_keys, same_value_words, same_value_contents) = keys_unique (keys ps)
        (keys ps') m.value_words m'.value_words m.value_contents m'.value_contents a.words a.contents m.are_keys m'.are_keys same_count m.words_joined
        (same_words ∙ m'.words_joined) m.contents_joined (same_contents ∙ m'.contents_joined) in
        ap object (values_unique ps ps' same_keys m.value_words m.value_contents m.values (rw (same_value_words, same_value_contents) m'.values))
    content_unique (object ps) t' kind bytes h g = grind (arith, HeadedBy-unique)

    pub entries_unique : (ts ts' : Trees) (words contents : List ℕ) → AreEntries number_at ts words contents → AreEntries number_at ts' words contents
        → ts ≡ ts'
    entries_unique no_trees no_trees words contents h g = refl
    entries_unique no_trees (tree t' ts') words contents h g = grind (arith, BeginWith-long)
    entries_unique (tree t ts) no_trees words contents h g = grind (arith, BeginWith-long)
    entries_unique (tree t ts) (tree t' ts') words contents h g =
        let same = BeginWith-unique _ _ _ _ _ _ _ _ _ _ h.begin g.begin in
        grind (arith, same, content_unique t t' h.kind h.content h.part, entries_unique ts ts' h.other_words h.other_contents h.others)

    pub values_unique : (ps ps' : Pairs) → keys ps ≡ keys ps' → (words contents : List ℕ) → AreValues number_at ps words contents
        → AreValues number_at ps' words contents → ps ≡ ps'
    values_unique no_pairs no_pairs same words contents h g = refl
    values_unique no_pairs (pair k t ps) same words contents h g = absurd (omega (arith, ap length same))
    values_unique (pair k t ps) no_pairs same words contents h g = absurd (omega (arith, ap length same))
    values_unique (pair k t ps) (pair k' t' ps') same words contents h g =
        let is = BeginWith-unique _ _ _ _ _ _ _ _ _ _ h.begin g.begin in
        let others = values_unique ps ps' (cc same) h.other_words h.other_contents h.others in
        grind (arith, is, content_unique t t' h.kind h.content h.part, others)

  -- a scalar's header determines the one entry
  headed_unique : (t t' : Tree) (bytes rest : List ℕ) → HeadedBy bytes 1 0 rest → IsDocument number_at t bytes
      → IsDocument number_at t' bytes → t ≡ t'
  headed_unique t t' bytes rest headed h g =
      let mine = scalar_document number_at bytes 1 0 rest headed t refl h in
      let other = scalar_document number_at bytes 1 0 rest headed t' refl g in
      let same = BeginWith-unique _ _ _ _ _ _ _ _ _ _ mine.4 other.4 in
      content_unique t t' mine.2 mine.3 mine.6 (rw (same.0, same.1) other.6)

  pub document_unique : (t t' : Tree) (bytes : List ℕ) → IsDocument number_at t bytes → IsDocument number_at t' bytes
      → t ≡ t'
  document_unique t t' bytes (inl h) (inl g) = content_unique t t' 5 bytes h g
  document_unique t t' bytes (inr s) g = headed_unique t t' bytes (s.words ++ s.contents) s.headed (inr s) g
  document_unique t t' bytes (inl h) (inr s) = headed_unique t t' bytes (s.words ++ s.contents) s.headed (inl h) (inr s)

mutual
  -- what a canonical content is
  canonical_content : (t : Tree) (kind : ℕ) (bytes : List ℕ) → AreBytes bytes → IsContent (number_reader canonical) t kind bytes
      → (kind ≡ kind_of t) × (bytes ≡ content t)
  canonical_content (array ts) kind bytes all (is, c) =
      let inner = headed_bytes bytes 4 (count ts) c.words c.contents c.headed all in
      grind (arith, canonical_entries ts c.words c.contents inner c.parts)
  canonical_content (object ps) kind bytes all (is, c) =
      let m = c.parts in
      let inner = headed_bytes bytes 2 (length (keys ps)) c.words c.contents c.headed all in
      let rest = joined_bytes c.contents (key_bytes (keys ps)) m.value_contents m.contents_joined inner in
      grind (arith, canonical_values ps m.value_words m.value_contents rest.1 m.values)
  canonical_content _ kind bytes all h = grind (arith, canonical_payload)

  canonical_entries : (ts : Trees) (ws cs : List ℕ) → AreBytes cs → AreEntries (number_reader canonical) ts ws cs → (ws ≡ words ts) × (cs ≡ contents ts)
  canonical_entries no_trees ws cs all h = h
  canonical_entries (tree t ts) ws cs all e =
      let rest = joined_bytes cs e.content e.other_contents e.begin.contents_joined all in
      let others = canonical_entries ts e.other_words e.other_contents rest.1 e.others in
      grind (arith, canonical_content t e.kind e.content rest.0 e.part, others)

  canonical_values : (ps : Pairs) (ws cs : List ℕ) → AreBytes cs → AreValues (number_reader canonical) ps ws cs
      → (ws ≡ value_words ps) × (cs ≡ value_contents ps)
  canonical_values no_pairs ws cs all h = h
  canonical_values (pair key t ps) ws cs all e =
      let rest = joined_bytes cs e.content e.other_contents e.begin.contents_joined all in
      let others = canonical_values ps e.other_words e.other_contents rest.1 e.others in
      grind (arith, canonical_content t e.kind e.content rest.0 e.part, others)

-- canonical bytes are the document of their tree
canonical_bytes : (bytes : List ℕ) (t : Tree) → AreBytes bytes → IsDocument (number_reader canonical) t bytes → bytes ≡ document t
canonical_bytes bytes t all (inl h) = grind (arith, canonical_content)
canonical_bytes bytes t all (inr c) =
    let e = c.parts in
    let inner = headed_bytes bytes 1 0 c.words c.contents c.headed all in
    let rest = joined_bytes c.contents e.content e.other_contents e.begin.contents_joined inner in
    grind (arith, canonical_content t e.kind e.content rest.0 e.part.1, append-nil)

pub one_canonical_document : (bytes : List ℕ) (t : Tree) → AreBytes bytes → Decodes canonical bytes t → bytes ≡ document t
one_canonical_document bytes t all d = canonical_bytes bytes t all d.document
