-- Spots of children within the content of a spot, by the type of the item, and by their positions.
use Rattle.jsonb_doc.proofs.Common.{◌≡◌, ◌≢◌, ℕ, ◌+◌, ◌-◌, ◌*◌, ◌/◌, ◌^◌, ◌<◌, ◌≤◌, List, [], ◌∷◌, ◌++◌, length, take, drop, refl, sym, ap, ◌∙◌, arith, inl, Some, None, Ok, append_assoc, length-append, length-take-le, drop_at, drop-take, drop-drop, take-append-drop, append-nil, take-add, between_to_end, ◌==◌, is_some, slice_range, Tree, array, object, Trees, tree, trees_of, elements, values, keys, children_of, field_of, NumberReader, Form, any, number_reader, number_of, Decodes, header, entry_word, BeginWith, IsContent, IsDocument, AreEntries, key_bytes, SameOption, StandBefore, StartWith, IsCut, Holds, TakesSpot, Locates, spot_content, HasSpotsLeft, PassesSpot, kind_number, Spot, SpotIter, StoredEntry, ArrayParts, ObjectParts, Array, Object, common_steps, Scalar, trees_in, pairs_in, map, Result, text, no_trees, count, no_pairs, pair, GivesSpot, AreAt, HasChildrenLeft, TakesChild, HasPairParts, key_trees, ChildPositions, EntryPositions, Error, length-drop}
use Rattle.jsonb_doc.proofs.KindLemmas.{kind_known}
use Rattle.jsonb_doc.proofs.WordLemmas.{append_cancel, word_cancel}
use Rattle.jsonb_doc.proofs.Entries.{BeginWith-long, BeginWith-room, BeginWith-unique, StandBefore-joined}
use Rattle.jsonb_doc.proofs.Containers.{IsCut-same, IsCut-scalar, entries_of, Decodes-array, Decodes-object, length-words}
use Rattle.jsonb_doc.proofs.PairsLemmas.{SkipsKeys, HoldsPairs-values, Holds-skipped, key_entries}
use Rattle.jsonb_doc.proofs.CanonicalLemmas.{in_any}
use Rattle.jsonb_doc.proofs.OneTree.{document_unique}
use Rattle.jsonb_doc.proofs.TreeLists.{trees_of-elements, count-trees_of}
use Rattle.jsonb_doc.proofs.WriterLemmas.{SplitAt, split_at}

-- ---- parts of bytes

length_range : (bytes : List ℕ) (s e : ℕ) → s ≤ e → e ≤ length bytes → length (slice_range bytes s e) ≡ e - s
length_range bytes s e ordered within = length-take-le (e - s) (drop s bytes) (omega (arith, length-drop s bytes))

-- a part of a range of bytes is a range of them
pub range_part : (bytes : List ℕ) (s e a b : ℕ) (front part back : List ℕ) → s ≤ e → e ≤ length bytes → slice_range bytes s e ≡ front ++ (part ++ back)
    → b ≡ e - length back → a ≡ b - length part
    → (a ≤ b) × (b ≤ e) × (slice_range bytes a b ≡ part)
range_part bytes s e a b front part back ordered within joined ends begins =
    let whole = length_range bytes s e ordered within in
    let both = length-append part back in
    grind (
      arith,
      common_steps,
      whole,
      both,
      length-append,
      drop-take,
      drop_at,
      drop-drop,
      take-add,
      length-take-le,
      length-drop,
      append_cancel,
    )

-- the prefix and the rest of a range
pub range_front : (bytes : List ℕ) (s e n : ℕ) → s + n ≤ e → e ≤ length bytes → slice_range bytes s (s + n) ≡ take n (slice_range bytes s e)
range_front bytes s e n h k = grind (arith, common_steps, length_range, length-take-le, length-drop, range_part, take-append-drop)

pub range_rest : (bytes : List ℕ) (s e n : ℕ) → s + n ≤ e → e ≤ length bytes → slice_range bytes (s + n) e ≡ drop n (slice_range bytes s e)
range_rest bytes s e n fits within =
    let joined : slice_range bytes s e
    ≡ take n (slice_range bytes s e) ++ (drop n (slice_range bytes s e) ++ []) = sym (take-append-drop n (slice_range bytes s e))
    ∙ ap (λ (w : List ℕ). take n (slice_range bytes s e) ++ w) (sym (append-nil (drop n (slice_range bytes s e)))) in
    (range_part bytes s e (s + n) e (take n (slice_range bytes s e)) (drop n (slice_range bytes s e)) [] (omega arith) within joined (omega arith)
    (omega (arith, length_range bytes s e (omega arith) within, length-drop n (slice_range bytes s e)))).2

-- the end of a range
pub range_end : (bytes : List ℕ) (s e : ℕ) (front back : List ℕ) → s ≤ e → e ≤ length bytes → slice_range bytes s e ≡ front ++ back
    → (e - length back ≤ e) × (slice_range bytes (e - length back) e ≡ back)
range_end bytes s e front back ordered within joined =
    let found = range_part bytes s e (e - length back) e front back [] ordered within (joined ∙ ap (λ (w : List ℕ). front ++ w) (sym (append-nil back)))
    (omega arith) refl in
    (found.0, found.2)

-- ---- an iterator and its first spot

-- the first entry, by its word, if the contents are long enough
pub StartWith-begin : (words contents others : List ℕ) (kind len : ℕ) → StartWith words kind len others → len ≤ length contents
    → BeginWith words contents kind (take len contents) others (drop len contents)
StartWith-begin words contents others kind len h e = grind (arith, length-take-le, take-append-drop)

-- the word of the first entry determines how long it is
pub StartWith-length : (words contents others : List ℕ) (kind len : ℕ) (k : ℕ) (content ws cs : List ℕ) → StartWith words kind len others
    → BeginWith words contents k content ws cs → len ≤ length contents
StartWith-length words contents others kind len k content ws cs w b = grind (arith, common_steps, BeginWith-room)

first_part : (number_at : NumberReader) (t : Tree) (ts : Trees) (words contents : List ℕ) (kind : ℕ) (content ws cs : List ℕ)
    → BeginWith words contents kind content ws cs → AreEntries number_at (tree t ts) words contents
    → IsContent number_at t kind content × AreEntries number_at ts ws cs
first_part number_at t ts words contents kind content ws cs b e =
    let (same_kind, same_content, same_words, same_contents) = BeginWith-unique words contents kind e.kind content e.content ws e.other_words cs
    e.other_contents b e.begin in
    rw (same_kind, same_content, same_words, same_contents) (e.part, e.others)

module _ (bytes : List ℕ) (it : SpotIter) where
  pub HasSpotsLeft-empty : (ts : List Tree) (after : SpotIter) → length it.words.now ≡ 0 → after ≡ it → HasSpotsLeft bytes it ts → TakesSpot bytes ts None after
  HasSpotsLeft-empty [] after none same h = rw same h
  HasSpotsLeft-empty (t ∷ ts) after none same h = grind (arith, BeginWith-long, h.entries any h.whole h.decodes)

  -- words that are not empty begin with one
  pub HasSpotsLeft-word : (ts : List Tree) → 0 < length it.words.now → ((kind len : ℕ) (others : List ℕ) → StartWith it.words.now kind len others → ⊥)
      → HasSpotsLeft bytes it ts → ⊥
  HasSpotsLeft-word [] some none h = omega (arith, ap length (h.entries any h.whole h.decodes).0)
  HasSpotsLeft-word (t ∷ ts) some none h =
      let e = h.entries any h.whole h.decodes in
      none e.kind (length e.content) e.other_words (record { known = e.begin.known; fits = e.begin.fits; joined = e.begin.words_joined })

  module _ (kind len : ℕ) (others : List ℕ) (w : StartWith it.words.now kind len others) where
    -- the first content is within the container
    pub HasSpotsLeft-fits : (ts : List Tree) → HasSpotsLeft bytes it ts → it.start + len ≤ it.end
    HasSpotsLeft-fits [] h = absurd (omega (arith, ap length (h.entries any h.whole h.decodes).0, ap length w.joined))
    HasSpotsLeft-fits (t ∷ ts) h =
        let e = h.entries any h.whole h.decodes in
        let fits = StartWith-length _ _ others kind len e.kind e.content e.other_words e.other_contents w e.begin in
        omega (arith, h.ordered, fits, length_range bytes it.start it.end h.ordered h.within)

    -- the first spot is that of the first tree, and the others are left
    pub HasSpotsLeft-first : (ts : List Tree) (spot : Spot) (after : SpotIter) → kind_number spot.kind ≡ kind → spot.start ≡ it.start → spot.end ≡ it.start
        + len
        → after.words.now ≡ others → after.start ≡ it.start + len → after.end ≡ it.end → HasSpotsLeft bytes it ts → TakesSpot bytes ts (Some (Ok spot)) after
    HasSpotsLeft-first [] spot after k s e words start end h = absurd (omega (arith, ap length (h.entries any h.whole h.decodes).0, ap length w.joined))
    HasSpotsLeft-first (t ∷ ts) spot after k s e words start end h =
        let within = h.within in
        let fits = HasSpotsLeft-fits (t ∷ ts) h in
        let first = λ (form : Form) (top : Tree) (d : Decodes form bytes top). first_part (number_reader form) t (trees_of ts) _ _ kind _ _ _
        (StartWith-begin _ _ others kind len w (omega (arith, fits, length_range bytes it.start it.end h.ordered h.within))) (h.entries form top d) in (
          record {
            whole = h.whole;
            decodes = h.decodes;
            ordered = omega arith;
            within = omega arith;
            content = λ form top d. rw (k, s, e, range_front bytes it.start it.end len fits within) (first form top d).0;
          },
          record {
            whole = h.whole;
            decodes = h.decodes;
            few = omega (arith, h.few);
            ordered = omega arith;
            within = omega arith;
            entries = λ form top d. rw (words, start, end, range_rest bytes it.start it.end len fits within) (first form top d).1;
          },
        )

-- ---- an iterator after that many of its spots

words_counted : (number_at : NumberReader) (ts : List Tree) (words contents : List ℕ) → AreEntries number_at (trees_of ts) words contents
    → length words ≡ 4 * length ts
words_counted number_at ts words contents e =
    omega (arith, length-words number_at (trees_of ts) words contents e, count-trees_of ts)

-- what follows contents that are passed over
rest_behind : (parts : List (List ℕ)) (words contents rest : List ℕ) (len : ℕ) → StandBefore parts words contents rest → len + length rest ≡ length contents
    → drop len contents ≡ rest
rest_behind parts words contents rest len h e = grind (arith, StandBefore-joined, drop_at, length-append)

module _ (bytes : List ℕ) (it : SpotIter) (ts : List Tree) (h : HasSpotsLeft bytes it ts) where
  pub spots_counted : length it.words.now ≡ 4 * length ts
  spots_counted = words_counted (number_reader any) ts _ _ (h.entries any h.whole h.decodes)

  module _ (count len : ℕ) (few : count ≤ length it.words.now / 4)
      (sum : (parts : List (List ℕ)) (contents rest : List ℕ) → StandBefore parts (take (4 * count) it.words.now) contents rest
      → len + length rest ≡ length contents) where
    found : (form : Form) (top : Tree) → Decodes form bytes top
        → SplitAt (number_reader form) count ts it.words.now (slice_range bytes it.start it.end)
    found form top d = split_at (number_reader form) count ts _ _ (h.entries form top d)

    -- the contents that are passed over are within the container
    pub HasSpotsLeft-passed : it.start + len ≤ it.end
    HasSpotsLeft-passed =
        let first = found any h.whole h.decodes in
        let step = sum first.parts _ first.back_contents first.stand in
        search (arith, step, h.ordered, length_range bytes it.start it.end h.ordered h.within)

    pub HasSpotsLeft-behind : (after : SpotIter) → after.words.now ≡ drop (4 * count) it.words.now → after.start ≡ it.start + len → after.end ≡ it.end
        → HasSpotsLeft bytes after (drop count ts)
    HasSpotsLeft-behind after words start end = grind (arith, HasSpotsLeft-passed, length-drop, found, rest_behind, range_rest)

-- the content of the first word is that of the first spot, if there is one
pub PassesSpot-fits : (it : SpotIter) (kind len : ℕ) (others : List ℕ) → StartWith it.words.now kind len others → (spot : Spot) (rest : SpotIter)
    → PassesSpot it spot rest → it.start + len ≤ it.end
PassesSpot-fits it kind len others h spot rest e = grind (arith, kind_known, word_cancel)

-- ---- spots

-- the spot of a part of all the bytes
pub Locates-root : (bytes : List ℕ) (spot : Spot) (t : Tree) (kind : ℕ) (front content back : List ℕ) → bytes ≡ front ++ (content ++ back)
    → kind_number spot.kind ≡ kind → spot.end ≡ length bytes - length back → spot.start ≡ spot.end - length content
    → Decodes any bytes t → ((form : Form) (top : Tree) → Decodes form bytes top → IsContent (number_reader form) top kind content) → Locates bytes spot t
Locates-root bytes spot t kind front content back joined k e s h part =
    let all : slice_range bytes 0 (length bytes) ≡ bytes = between_to_end bytes 0 (length bytes) (omega arith) in
    let found = range_part bytes 0 (length bytes) spot.start spot.end front content back (omega arith) (omega arith) (all ∙ joined) e s in
    record {
      whole = t;
      decodes = h;
      ordered = found.0;
      within = found.1;
      content = λ form top d.
          rw (k, found.2, ← (document_unique number_of top t bytes (in_any form top bytes d).document h.document)) (part form top d);
    }

module _ (bytes : List ℕ) (parent : Spot) (t : Tree) (m : Locates bytes parent t) where
  -- the spot of a part of a content
  pub Locates-part : (spot : Spot) (u : Tree) (kind : ℕ) (front content back : List ℕ) → spot_content bytes parent ≡ front ++ (content ++ back)
      → kind_number spot.kind ≡ kind → spot.end ≡ parent.end - length back → spot.start ≡ spot.end - length content
      → ((form : Form) (top : Tree) → Decodes form bytes top → IsContent (number_reader form) u kind content) → Locates bytes spot u
  Locates-part spot u kind front content back joined k e s part =
      let found = range_part bytes parent.start parent.end spot.start spot.end front content back m.ordered m.within joined e s in
      record {
        whole = m.whole;
        decodes = m.decodes;
        ordered = found.0;
        within = omega (arith, m.within, found.1);
        content = λ form top d. rw (k, found.2) (part form top d);
      }

  -- the spots of the entries at the end of a content
  pub HasSpotsLeft-part : (it : SpotIter) (ts : Trees) (front contents : List ℕ) → spot_content bytes parent ≡ front ++ contents
      → it.start ≡ parent.end - length contents → it.end ≡ parent.end
      → length it.words.now < 2 ^ 31
      → ((form : Form) (top : Tree) → Decodes form bytes top → AreEntries (number_reader form) ts it.words.now contents) → HasSpotsLeft bytes it (elements ts)
  HasSpotsLeft-part it ts front contents joined s e short entries =
      let more = words_counted (number_reader any) (elements ts) it.words.now contents (rw (trees_of-elements ts) (entries any m.whole m.decodes)) in
      search (arith, range_end bytes parent.start parent.end front contents m.ordered m.within joined, m.within, more, trees_of-elements)

  -- a scalar has no children and no fields
  pub Locates-scalar : kind_number parent.kind ≢ 5 → (children_of t ≡ None) × ((name : List ℕ) → field_of name t ≡ None)
  Locates-scalar scalar = grind (arith, m.content any m.whole m.decodes)

-- an item is a container if it has children
pub Locates-has_children : (bytes : List ℕ) (spot : Spot) (t : Tree) → Locates bytes spot t → (kind_number spot.kind == 5) ≡ is_some (children_of t)
Locates-has_children bytes spot t m = grind (arith, m.content any m.whole m.decodes)

pub no_children : (bytes : List ℕ) (t : Tree) → children_of t ≡ None → SameOption (HasSpotsLeft bytes) None (children_of t)
no_children bytes t none = rw none tt

pub no_field : (bytes name : List ℕ) (t : Tree) → field_of name t ≡ None → SameOption (Locates bytes) None (field_of name t)
no_field bytes name t none = rw none tt

pub some_field : (bytes name : List ℕ) (t u : Tree) (spot : Spot) → field_of name t ≡ Some u → Locates bytes spot u
    → SameOption (Locates bytes) (Some spot) (field_of name t)
some_field bytes name t u spot is h = rw is h

-- ---- containers

-- a scalar's content is the end of its document
pub scalar_end : (bytes : List ℕ) (e : StoredEntry) → IsCut bytes (Scalar e) → (front : List ℕ) × (bytes ≡ front ++ (e.content.now ++ []))
scalar_end bytes e (rest, h, lone) =
    let word = entry_word (kind_number e.kind) (length e.content.now) in
    (header 1 0 ++ word, h.joined ∙ ap (λ (w : List ℕ). header 1 0 ++ w) (lone.start.joined ∙ ap (λ (w : List ℕ). word ++ w) (sym (append-nil e.content.now))))

module _ (bytes : List ℕ) (parent : Spot) (t : Tree) (m : Locates bytes parent t) (content : List ℕ) (is : content ≡ spot_content bytes parent)
    (container : kind_number parent.kind ≡ 5) where
  pub Locates-container : (form : Form) (top : Tree) → Decodes form bytes top → IsContent (number_reader form) t 5 content
  Locates-container form top d = rw (is, ← container) (m.content form top d)

  pub Locates-document : IsDocument (number_reader any) t content
  Locates-document = inl (Locates-container any m.whole m.decodes)

  pub Locates-no-scalar : (e : StoredEntry) → IsCut content (Scalar e) → ⊥
  Locates-no-scalar e cut = IsCut-scalar (number_reader any) content e cut t (Locates-container any m.whole m.decodes)

  module _ (p : ArrayParts) (cut : IsCut content (Array p)) where
    pub array_held : (form : Form) (top : Tree) → Decodes form bytes top → Holds (number_reader form) t (Array p)
    array_held form top d = (IsCut-same content (Array p) cut (number_reader form) t).0 (inl (Locates-container form top d))

    -- an array has children and no fields
    pub array_children : (it : SpotIter) → it.words.now ≡ p.words.now → it.start ≡ parent.end - length p.contents.now → it.end ≡ parent.end
        → SameOption (HasSpotsLeft bytes) (Some it) (children_of t)
    array_children it words start end = go t m array_held
      where
        joined : content ≡ (header 4 cut.0 ++ p.words.now) ++ p.contents.now
        joined = cut.1.joined ∙ sym (append_assoc (header 4 cut.0) p.words.now p.contents.now)

        go : (u : Tree) → Locates bytes parent u → ((form : Form) (top : Tree) → Decodes form bytes top → Holds (number_reader form) u (Array p))
            → SameOption (HasSpotsLeft bytes) (Some it) (children_of u)
        go (array ts) k held = HasSpotsLeft-part bytes parent (array ts) k it ts (header 4 cut.0 ++ p.words.now) p.contents.now (sym is ∙ joined) start end
            (omega (arith, ap length words, cut.1.fits, cut.2)) (λ form top d. rw words (held form top d))
        go _ k held = absurd (held any m.whole m.decodes)

    pub array_no_field : (name : List ℕ) → SameOption (Locates bytes) None (field_of name t)
    array_no_field name = grind (arith, array_held any m.whole m.decodes)

  module _ (p : ObjectParts) (cut : IsCut content (Object p)) where
    pub object_held : (form : Form) (top : Tree) → Decodes form bytes top → Holds (number_reader form) t (Object p)
    object_held form top d = (IsCut-same content (Object p) cut (number_reader form) t).0 (inl (Locates-container form top d))

    -- the words and the contents follow the header
    pub object_joined : content ≡ (header 2 cut.0 ++ (p.key_words.now ++ p.value_words.now)) ++ p.contents.now
    object_joined = cut.1.joined ∙ sym (append_assoc (header 2 cut.0) (p.key_words.now ++ p.value_words.now) p.contents.now)

    pub object_children : (it : SpotIter) (found : List ℕ) → SkipsKeys p found → it.words.now ≡ p.value_words.now → it.start ≡ parent.end - length found
        → it.end ≡ parent.end → SameOption (HasSpotsLeft bytes) (Some it) (children_of t)
    object_children it found skips words start end = go t m object_held
      where
        go : (u : Tree) → Locates bytes parent u → ((form : Form) (top : Tree) → Decodes form bytes top → Holds (number_reader form) u (Object p))
            → SameOption (HasSpotsLeft bytes) (Some it) (children_of u)
        go (object ps) k held =
            let h = held any m.whole m.decodes in
            let front = header 2 cut.0 ++ (p.key_words.now ++ p.value_words.now) in
            let joined = sym is ∙ object_joined
            ∙ ap (λ (w : List ℕ). front ++ w)
            (h.bytes ∙ ap (λ (w : List ℕ). key_bytes (keys ps) ++ w) (sym (HoldsPairs-values (number_reader any) ps p found h skips)))
            ∙ sym (append_assoc front (key_bytes (keys ps)) found) in
            HasSpotsLeft-part bytes parent (object ps) k it (values ps) (front ++ key_bytes (keys ps)) found joined start end
            (omega (arith, ap length words, cut.1.fits, cut.3))
            (λ form top d. let o = held form top d in rw (words, HoldsPairs-values (number_reader form) ps p found o skips)
            (entries_of (number_reader form) ps _ _ o.values))
        go _ k held = absurd (held any m.whole m.decodes)

    -- bytes that no keys can be passed over in
    pub object_skipped : ((parts : List (List ℕ)) (rest : List ℕ) → StandBefore parts p.key_words.now p.contents.now rest → ⊥) → ⊥
    object_skipped none = Holds-skipped any p none t (object_held any m.whole m.decodes)

module _ (bytes : List ℕ) (parent : Spot) (t : Tree) (m : Locates bytes parent t) (content : List ℕ) (is : content ≡ spot_content bytes parent)
    (container : kind_number parent.kind ≡ 5) where
  module _ (p : ArrayParts) (cut : IsCut content (Array p)) where
    pub array_no_values : SameOption (λ it ps. HasSpotsLeft bytes it (elements (values ps))) None (pairs_in t)
    array_no_values =
        grind (arith, array_held bytes parent t m content is container p cut any m.whole m.decodes)

    -- the children of an array are its elements
    pub array_elements : (it : SpotIter) → it.words.now ≡ p.words.now → it.start ≡ parent.end - length p.contents.now → it.end ≡ parent.end
        → SameOption (λ found ts. HasSpotsLeft bytes found (elements ts)) (Some it) (trees_in t)
    array_elements it words start end =
        let children = array_children bytes parent t m content is container p cut it words start end in
        grind (arith, array_held bytes parent t m content is container p cut any m.whole m.decodes, children)

  module _ (p : ObjectParts) (cut : IsCut content (Object p)) where
    pub object_no_elements : SameOption (λ it ts. HasSpotsLeft bytes it (elements ts)) None (trees_in t)
    object_no_elements =
        grind (arith, object_held bytes parent t m content is container p cut any m.whole m.decodes)

    -- the children of an object are its values
    pub object_values : (it : SpotIter) (found : List ℕ) → SkipsKeys p found → it.words.now ≡ p.value_words.now → it.start ≡ parent.end - length found
        → it.end ≡ parent.end → SameOption (λ it ps. HasSpotsLeft bytes it (elements (values ps))) (Some it) (pairs_in t)
    object_values it found skips words start end =
        let children = object_children bytes parent t m content is container p cut it found skips words start end in
        grind (arith, object_held bytes parent t m content is container p cut any m.whole m.decodes, children)

-- ---- entries

-- the iterator of the spots of entries at these positions
pub at_spots : (bytes : List ℕ) (left : ℕ) (at : EntryPositions) (ts : List Tree) (it : SpotIter) → AreAt bytes left at ts
    → it.words.now ≡ slice_range bytes at.word (at.word + 4 * left) → it.start ≡ at.content → it.end ≡ at.end → HasSpotsLeft bytes it ts
at_spots bytes left at ts it h e k f = grind arith

-- a first entry and the others, after the word of the first
pub others_at : (bytes : List ℕ) (left : ℕ) (at others : EntryPositions) (t : Tree) (ts : List Tree) (it after : SpotIter) (spot : Spot) → 0 < left
    → AreAt bytes left at (t ∷ ts) → it.words.now ≡ slice_range bytes at.word (at.word + 4 * left) → PassesSpot it spot after → HasSpotsLeft bytes after ts
    → it.end ≡ at.end → others.word ≡ at.word + 4 → others.content ≡ spot.end → others.end ≡ at.end → AreAt bytes (left - 1) others ts
others_at bytes left at others t ts it after spot h e k f g i q m o = search (arith, range_rest, drop_at)

-- an entry that is read, with what follows it
pub record IsFirst (bytes : List ℕ) (t : Tree) (ts : List Tree) (it : SpotIter) (spot : Spot) (after : SpotIter) : Type 0 where
  pub passes : PassesSpot it spot after
  pub marks : Locates bytes spot t
  pub rest : HasSpotsLeft bytes after ts

pub first_read : (bytes : List ℕ) (t : Tree) (ts : List Tree) (it : SpotIter) (r : Result Spot Error) (spot : Spot) (after : SpotIter)
    → GivesSpot it (Some r) after → r ≡ Ok spot → HasSpotsLeft bytes it (t ∷ ts) → IsFirst bytes t ts it spot after
first_read bytes t ts it r spot after g is h =
    let taken : TakesSpot bytes (t ∷ ts) (Some (Ok spot)) after = rw is at (g.takes bytes (t ∷ ts) h) in
    record { passes = rw is at g.any_bytes.reads; marks = taken.0; rest = taken.1 }

-- ---- a first child

module _ (bytes : List ℕ) (at : ChildPositions) (some : 0 < at.left) where
  -- the value of a first child
  pub record FirstValue : Type 0 where
    pub t : Tree
    pub ts : List Tree
    pub value : AreAt bytes at.left at.values (t ∷ ts)

  pub first_value : (t : Tree) → HasChildrenLeft bytes at t → FirstValue
  first_value (array no_trees) h = let none = h.1.counted in absurd (omega (arith, none))
  first_value (array (tree t ts)) h = record { t = t; ts = elements ts; value = h.1 }
  first_value (object no_pairs) h = let none = h.2.counted in absurd (omega (arith, none))
  first_value t h = grind arith

  -- the key of a first member
  pub record FirstKey : Type 0 where
    pub t : Tree
    pub ts : List Tree
    pub key : AreAt bytes at.left at.keys (t ∷ ts)

  pub first_key : (t : Tree) → 0 < at.keys.word → HasChildrenLeft bytes at t → FirstKey
  first_key (array ts) word h = let none = h.0 in absurd (omega (arith, none))
  first_key (object no_pairs) word h = let none = h.1.counted in absurd (omega (arith, none))
  first_key t word h = grind arith

  module _ (value : Spot) (values_after : EntryPositions)
      (first : (t : Tree) (ts : List Tree) → AreAt bytes at.left at.values (t ∷ ts)
      → Locates bytes value t × AreAt bytes (at.left - 1) values_after ts) where
    pub element_taken : (t : Tree) → at.keys.word ≡ 0 → HasChildrenLeft bytes at t
        → TakesChild (Locates bytes) bytes t (Some (record { key = None; value = value })) (record { left = at.left - 1; keys = at.keys; values = values_after })
    element_taken (array no_trees) word h = let none = h.1.counted in absurd (omega (arith, none))
    element_taken (array (tree t ts)) word h = let f = first t (elements ts) h.1 in (refl, f.0, (word, f.1))
    element_taken t word h = grind arith

    module _ (key : Spot) (keys_after : EntryPositions)
        (first_name : (t : Tree) (ts : List Tree) → AreAt bytes at.left at.keys (t ∷ ts)
        → Locates bytes key t × AreAt bytes (at.left - 1) keys_after ts) where
      pub member_taken : (t : Tree) → 0 < at.keys.word → 0 < keys_after.word → HasChildrenLeft bytes at t
          → TakesChild (Locates bytes) bytes t (Some (record { key = Some key; value = value })) (record { left = at.left - 1; keys = keys_after; values = values_after })
      member_taken (array ts) word more h = let none = h.0 in absurd (omega (arith, none))
      member_taken (object no_pairs) word more h = let none = h.1.counted in absurd (omega (arith, none))
      member_taken (object (pair name t ps)) word more h =
          grind (arith, first t (elements (values ps)) h.2, first_name (text name) (map text (keys ps)) h.1)
      member_taken _ word more h = absurd h

-- ---- a root

-- a part of bytes, by what is before it
part_at : (bytes front part back : List ℕ) (a b : ℕ) → bytes ≡ front ++ (part ++ back) → a ≡ length front → b ≡ length front + length part
    → (b ≤ length bytes) × (slice_range bytes a b ≡ part)
part_at bytes front part back a b h e k = grind (arith, common_steps, between_to_end, length-append, range_part)

-- entries whose words and contents are parts of the bytes
entries_at : (bytes : List ℕ) (t : Tree) → Decodes any bytes t
    → (left : ℕ) (at : EntryPositions) (ts : List Tree) (front words mid contents back : List ℕ)
    → bytes ≡ front ++ (words ++ (mid ++ (contents ++ back))) → left ≡ length words / 4 → length words < 2 ^ 31
    → at.word ≡ length front
    → at.content ≡ length bytes - length back - length contents → at.end ≡ length bytes - length back
    → ((form : Form) (top : Tree) → Decodes form bytes top → AreEntries (number_reader form) (trees_of ts) words contents)
    → AreAt bytes left at ts
entries_at bytes t d left at ts front words mid contents back joined count short word content end entries =
    let many = words_counted (number_reader any) ts words contents (entries any t d) in
    let counted : left ≡ length ts = omega (arith, count, many) in
    let words_at = part_at bytes front words (mid ++ (contents ++ back)) at.word (at.word + 4 * left) joined word
    (omega (arith, word, many, counted)) in
    let before = front ++ (words ++ mid) in
    let whole : bytes ≡ before ++ (contents ++ back) = rw joined (simp append_assoc) in
    let size : length bytes ≡ length before + (length contents + length back) = rw whole (simp length-append) in
    let contents_at = part_at bytes before contents back at.content at.end whole (omega (arith, content, size))
    (omega (arith, end, size)) in
    record {
      whole = t;
      decodes = d;
      counted = counted;
      few = omega (arith, count, short);
      words_within = words_at.0;
      ordered = omega (arith, content, end);
      within = contents_at.0;
      entries = λ form top e. rw (words_at.1, contents_at.1) (entries form top e);
    }

-- keys as strings
texts_of : (ks : List (List ℕ)) → trees_of (map text ks) ≡ key_trees ks
texts_of [] = refl
texts_of (key ∷ ks) = ap (tree (text key)) (texts_of ks)

module _ (bytes : List ℕ) (t : Tree) (d : Decodes any bytes t) where
  -- in each form the bytes decode to the same tree
  same_tree : (form : Form) (top : Tree) → Decodes form bytes top → top ≡ t
  same_tree form top e = document_unique number_of top t bytes (in_any form top bytes e).document d.document

  module _ (p : ArrayParts) (cut : IsCut bytes (Array p)) (at : ChildPositions) where
    pub array_opened : at.left ≡ length p.words.now / 4 → at.keys.word ≡ 0 → at.values.word ≡ 4 → at.values.content ≡ length bytes - length p.contents.now
        → at.values.end ≡ length bytes → HasChildrenLeft bytes at t
    array_opened left key word content end = go t refl (Decodes-array any bytes p cut t d)
      where
        go : (u : Tree) → t ≡ u → Holds (number_reader any) u (Array p) → HasChildrenLeft bytes at u
        go (array ts) is held = (
          key,
          entries_at bytes t d at.left at.values (elements ts) (header 4 cut.0) p.words.now [] p.contents.now []
              (rw append-nil cut.1.joined) left (omega (arith, cut.1.fits, cut.2)) word (omega (arith, content))
              (omega (arith, end)) (λ form top e.
              let o = Decodes-array form bytes p cut top e in
              rw (trees_of-elements ts) (rw (same_tree form top e ∙ is) at o)),
        )
        go _ is held = absurd held

  module _ (p : ObjectParts) (cut : IsCut bytes (Object p)) where
    -- the keys of an object end within its bytes
    pub keys_end : ((parts : List (List ℕ)) (rest : List ℕ) → StandBefore parts p.key_words.now p.contents.now rest → ⊥) → ⊥
    keys_end none = Holds-skipped any p none t (Decodes-object any bytes p cut t d)

    module _ (at : ChildPositions) (found : List ℕ) (skips : SkipsKeys p found) where
      pub object_opened : at.left ≡ length p.key_words.now / 4 → at.keys.word ≡ 4 → at.keys.content ≡ length bytes - length p.contents.now
          → at.keys.end ≡ length bytes - length found → at.values.word ≡ 4 + length p.key_words.now → at.values.content ≡ length bytes - length found
          → at.values.end ≡ length bytes → HasChildrenLeft bytes at t
      object_opened left key_word key key_end word content end = go t refl (Decodes-object any bytes p cut t d)
        where
          go : (u : Tree) → t ≡ u → Holds (number_reader any) u (Object p) → HasChildrenLeft bytes at u
          go (object ps) is held =
              let h = header 2 cut.0 in
              let kw = p.key_words.now in
              let vw = p.value_words.now in
              let kb = key_bytes (keys ps) in
              let same : found ≡ held.rest = HoldsPairs-values (number_reader any) ps p found held skips in
              let inside : p.contents.now ≡ kb ++ found = held.bytes ∙ ap (λ r. kb ++ r) (sym same) in
              let joined : bytes ≡ h ++ (kw ++ (vw ++ (kb ++ found))) = cut.1.joined
              ∙ ap (λ c. h ++ ((kw ++ vw) ++ c)) inside ∙ ap (λ w. h ++ w) (append_assoc kw vw (kb ++ found)) in
              let sum : length p.contents.now ≡ length kb + length found =
              omega (arith, ap length inside, length-append kb found) in (
                omega (arith, key_word),
                entries_at bytes t d at.left at.keys (map text (keys ps)) h kw vw kb found joined left
                    (omega (arith, cut.1.fits, cut.2)) key_word (omega (arith, key, sum)) key_end (λ form top e.
                    let entries = key_entries (number_reader form) (keys ps) held.are_keys in
                    rw (texts_of (keys ps), held.words) entries),
                entries_at bytes t d at.left at.values (elements (values ps)) (h ++ kw) vw kb found []
                    (rw append-nil (joined ∙ sym (append_assoc h kw (vw ++ (kb ++ found)))))
                    (omega (arith, left, cut.2, cut.3)) (omega (arith, cut.1.fits, cut.3))
                    (omega (arith, word, length-append h kw)) (omega (arith, content)) (omega (arith, end)) (λ form top e.
                    let o : HasPairParts (number_reader form) ps p =
                    rw (same_tree form top e ∙ is) at (Decodes-object form bytes p cut top e) in
                    rw (trees_of-elements (values ps), HoldsPairs-values (number_reader form) ps p found o skips)
                    (entries_of (number_reader form) ps vw o.rest o.values)),
              )
          go _ is held = absurd held
