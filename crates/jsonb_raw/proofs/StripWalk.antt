-- Containers without the nulls of their objects: what is stripped, and the walk that writes the rest.
use Rattle.jsonb_raw.proofs.Common.{◌≡◌, ℕ, ◌+◌, ◌≤◌, ap₂, Bool, true, false, List, [], ◌∷◌, ◌++◌, Some, length, map, refl, sym, ap, subst, ◌∙◌, arith, append_assoc, kind_number, Tree, text, array, object, elements, values, keys, Form, number_reader, IsContent, container_entry, StoredEntry, Entries, Writer, StartWith, Around, IsWriting, word_cancel, keys_of-members, ValuesLeft, ContainerEntries, HoldTrees, AreEntriesOf, Holding, WordsHold, stops, stripped, beside, entries_kept, values_kept, HoldValues, Begins, AreWritten, is_null, cond, suc, ◌==◌, Pairs, no_pairs, pair, Trees, no_trees, tree, members, trees_of, IsBelowFirst, AreKeys, AreRising, keys_rise, strip, strip_pairs, strip_trees, values_of, nat_tests, null_entry, Make, pairs_of-members, leaves_out, length-values_of, nat_list_cmp_total}
use Rattle.jsonb_raw.specs.declared.functions.operator.stripping.Outer.{Outer}
use Rattle.jsonb_raw.proofs.RunLemmas.{holding_begun, holding_kept, EntryTaken, TextFirst, values_of-members}

-- a key below those of all pairs is below those of the pairs that stay
pub below_stripped : (low : List ℕ) (ps : Pairs) → IsBelowFirst low (keys ps) → AreRising (keys ps) → IsBelowFirst low (keys (strip_pairs ps))
below_stripped low no_pairs below rising = tt
below_stripped low (pair key t ps) below rising = by (is_null t) (below_stripped low ps (further ps rising.0) rising.1)
  where
    further : (qs : Pairs) → IsBelowFirst key (keys qs) → IsBelowFirst low (keys qs)
    further qs h = grind (arith, nat_list_cmp_total)

    by : (b : Bool) → IsBelowFirst low (keys (strip_pairs ps)) → IsBelowFirst low (keys (cond b (strip_pairs ps) (pair key (strip t) (strip_pairs ps))))
    by b h = grind arith

-- ---- values that stay

pub trees-stripped : (ts : Trees) → trees_of (stripped false (elements ts)) ≡ strip_trees ts
trees-stripped no_trees = refl
trees-stripped (tree t ts) = ap (λ us. tree (strip t) us) (trees-stripped ts)

pub length-stripped : (ts : List Tree) → length (stripped false ts) ≡ length ts
length-stripped [] = refl
length-stripped (t ∷ ts) = ap suc (length-stripped ts)

pub values_of-stripped : (ps : Pairs) → values_of (members (strip_pairs ps)) ≡ stripped true (elements (values ps))
values_of-stripped no_pairs = refl
values_of-stripped (pair key t ps) = grind (arith, values_of-stripped ps)

-- ---- kinds

pub null_kind : (form : Form) (t : Tree) (kind : ℕ) (bytes : List ℕ) → IsContent (number_reader form) t kind bytes → (kind == null_entry) ≡ is_null t
null_kind form t kind bytes h = grind arith

pub is_none : (k : ℕ) → k ≡ 0 → (k == null_entry) ≡ true
is_none k e = rw e refl

pub is_some : (k : ℕ) → (k ≡ 0 → ⊥) → (k == null_entry) ≡ false
is_some k h = grind (arith, nat_tests)

-- ---- which trees change

pub leaves_none : (is_object : Bool) → leaves_out is_object false ≡ false
leaves_none is_object = grind arith

-- ---- keys

pub keys_stripped : (ps : Pairs) → AreKeys (keys ps) → AreKeys (keys (strip_pairs ps))
keys_stripped no_pairs are = tt
keys_stripped (pair key t ps) are = by (is_null t) (keys_stripped ps are.2)
  where
    by : (b : Bool) → AreKeys (keys (strip_pairs ps)) → AreKeys (keys (cond b (strip_pairs ps) (pair key (strip t) (strip_pairs ps))))
    by b h = grind (arith, below_stripped, keys_rise)

pub fewer_keys : (ps : Pairs) → length (keys (strip_pairs ps)) ≤ length (keys ps)
fewer_keys no_pairs = omega arith
fewer_keys (pair key t ps) = grind (arith, fewer_keys ps)

pub beside_none : (ts : List Tree) → beside ts [] ≡ []
beside_none [] = refl
beside_none (t ∷ ts) = refl

pub beside_keys : (ps : Pairs) → beside (elements (values ps)) (keys ps) ≡ keys (strip_pairs ps)
beside_keys no_pairs = refl
beside_keys (pair key t ps) = grind (arith, beside_keys ps)

-- if no fewer keys stay, all do
pub all_keys : (ps : Pairs) → length (keys ps) ≤ length (keys (strip_pairs ps)) → keys (strip_pairs ps) ≡ keys ps
all_keys no_pairs same = refl
all_keys (pair key t ps) same = grind (arith, fewer_keys ps, all_keys ps, same)

pub many_keys : (ps : Pairs) → length (keys ps) ≡ length (members ps)
many_keys no_pairs = refl
many_keys (pair key t ps) = ap suc (many_keys ps)

pub as_many_keys : (ps : Pairs) → length (keys ps) ≡ length (elements (values ps))
as_many_keys no_pairs = refl
as_many_keys (pair key t ps) = ap suc (as_many_keys ps)

-- ---- what a container becomes

pub kept_makes : (form : Form) (t : Tree) (e : ContainerEntries) (n : ℕ) → AreEntriesOf form t e → n ≡ length (values_kept t)
    → Make e.kind n (entries_kept t) (strip t)
kept_makes form (array ts) e n h is = grind (arith, trees-stripped)
kept_makes form (object ps) e n h is =
    subst (λ k. Make k n (entries_kept (object ps)) (strip (object ps))) (sym h.0) (
      members (strip_pairs ps),
      is ∙ ap length (sym (values_of-stripped ps)) ∙ length-values_of (members (strip_pairs ps)),
      rw (keys_of-members (strip_pairs ps)) (keys_rise _ (keys_stripped ps h.1)),
      rw (keys_of-members (strip_pairs ps), values_of-stripped ps) refl,
      ap object (sym (pairs_of-members (strip_pairs ps))),
    )
kept_makes form _ e n h is = absurd h

-- ---- words are read

-- Holds if the first of the trees has an entry of this kind, and these are the words of the others.
pub record WordTaken (form : Form) (ts : List Tree) (kind : ℕ) (others : List ℕ) : Type 0 where
  pub t : Tree
  pub content : List ℕ
  pub rest : List Tree
  pub split : ts ≡ t ∷ rest
  pub part : IsContent (number_reader form) t kind content
  pub others_hold : WordsHold form others rest

pub word_taken : (form : Form) (words : List ℕ) (ts : List Tree) (kind len : ℕ) (others : List ℕ) → WordsHold form words ts → StartWith words kind len others
    → WordTaken form ts kind others
word_taken form words [] kind len others h w = absurd (omega (arith, ap length h.entries.0, ap length w.joined))
word_taken form words (t ∷ ts) kind len others h w = grind (arith, word_cancel)

pub no_word_left : (form : Form) (words : List ℕ) (ts : List Tree) → WordsHold form words ts
    → ((kind len : ℕ) (others : List ℕ) → StartWith words kind len others → ⊥) → ts ≡ []
no_word_left form words [] h none = refl
no_word_left form words (t ∷ ts) h none =
    let e = h.entries in
    absurd (none e.kind (length e.content) e.other_words (record { known = e.begin.known; fits = e.begin.fits; joined = e.begin.words_joined }))

pub words_of_run : (form : Form) (run : Entries) (ts : List Tree) → HoldTrees form run ts → WordsHold form run.words.now ts
words_of_run form run ts h = record { contents = run.contents.now; entries = h.entries }

-- ---- values are written in runs

-- Holds if the trees of the run before the remaining ones are coming next, and then the remaining ones without nulls.
pub record ScalarsOpen (form : Form) (is_object : Bool) (w : Writer) (run left : Entries) (around : Around) (whole : Tree) : Type 0 where
  pub here : List Tree
  pub trees : List Tree
  pub holding : Holding form [] run left here trees
  pub writing : IsWriting form w (here ++ stripped is_object trees) around whole

pub scalars_begun : (form : Form) (is_object : Bool) (w : Writer) (run : Entries) (around : Around) (whole : Tree) (ts : List Tree) → HoldTrees form run ts
    → IsWriting form w (stripped is_object ts) around whole → ScalarsOpen form is_object w run run around whole
scalars_begun form is_object w run around whole ts h e = search (arith, holding_begun)

module _ (form : Form) (is_object : Bool) (w : Writer) (run left : Entries) (around : Around) (whole : Tree)
    (o : ScalarsOpen form is_object w run left around whole) where
  module _ (entry : StoredEntry) (others : Entries) (f : EntryTaken form left o.trees entry others) where
    next_coming : IsWriting form w (o.here ++ stripped is_object (f.t ∷ f.rest)) around whole
    next_coming = subst (λ us. IsWriting form w (o.here ++ stripped is_object us) around whole) f.split o.writing

    pub scalar_kept : stops is_object f.t ≡ false → ScalarsOpen form is_object w run others around whole
    scalar_kept same = record {
      here = o.here ++ f.t ∷ [];
      trees = f.rest;
      holding = search holding_kept;
      writing = subst (λ us. IsWriting form w us around whole)
          (ap (λ us. o.here ++ us) (grind (arith, same)) ∙ sym (append_assoc o.here (f.t ∷ []) (stripped is_object f.rest))) next_coming;
    }

    module _ (w' : Writer) (copied : IsWriting form w' (stripped is_object o.trees) around whole) where
      next_stripped : IsWriting form w' (stripped is_object (f.t ∷ f.rest)) around whole
      next_stripped = subst (λ us. IsWriting form w' (stripped is_object us) around whole) f.split copied

      -- the next entry is a container
      pub container_next : kind_number entry.kind ≡ container_entry → AreWritten form is_object w' around whole (Some (entry.content, others))
      container_next h = grind (arith, null_kind, leaves_none, next_stripped)

      -- or a null that is left out
      pub null_next : (kind_number entry.kind ≡ container_entry → ⊥) → stops is_object f.t ≡ true
          → ScalarsOpen form is_object w' others others around whole
      null_next other stop = scalars_begun form is_object w' others around whole f.rest f.is_first.others_hold
          (subst (λ us. IsWriting form w' us around whole) (grind (arith, f.is_first.part, other, stop)) next_stripped)

  pub no_value_left : (w' : Writer) → IsWriting form w' (stripped is_object o.trees) around whole → o.trees ≡ [] → IsWriting form w' [] around whole
  no_value_left w' copied none = subst (λ us. IsWriting form w' (stripped is_object us) around whole) none copied

-- ---- values are counted

pub record ValuesCounted (form : Form) (count : ℕ) (left : List ℕ) (total : ℕ) : Type 0 where
  pub trees : List Tree
  pub holds : WordsHold form left trees
  pub sum : count + length (stripped true trees) ≡ total

-- ---- keys are written in runs

-- Holds if the keys of the run before the remaining ones are coming next, and then the remaining ones next to values
-- that are not null.
pub record KeysOpen (form : Form) (run left : Entries) (words : List ℕ) (w : Writer) (coming : List Tree) (around : Around) (whole : Tree) : Type 0 where
  pub here : List Tree
  pub names : List (List ℕ)
  pub trees : List Tree
  pub holding : Holding form [] run left here (map text names)
  pub words_hold : WordsHold form words trees
  pub enough : length names ≤ length trees
  pub writing : IsWriting form w (here ++ (map text (beside trees names) ++ coming)) around whole

module _ (form : Form) (run left : Entries) (words : List ℕ) (w : Writer) (coming : List Tree) (around : Around) (whole : Tree)
    (o : KeysOpen form run left words w coming around whole) where
  pub keys_done : o.names ≡ [] → IsWriting form w (o.here ++ coming) around whole
  keys_done none = grind (arith, beside_none)

  module _ (key : StoredEntry) (others : Entries) (k : TextFirst form left o.names key others) where
    pub value_there : o.trees ≡ [] → ⊥
    value_there none = let enough = o.enough in omega (arith, enough, ap length k.split, ap length none)

    module _ (kind : ℕ) (after : List ℕ) (f : WordTaken form o.trees kind after) where
      few : length k.rest ≤ length f.rest
      few = let enough = o.enough in omega (arith, enough, ap length k.split, ap length f.split)

      split_both : beside o.trees o.names ≡ beside (f.t ∷ f.rest) (key.content.now ∷ k.rest)
      split_both = ap₂ beside f.split k.split

      pub key_kept : (kind ≡ 0 → ⊥) → KeysOpen form run others after w coming around whole
      key_kept some =
          let null : is_null f.t ≡ false = sym (null_kind form f.t _ _ f.part) ∙ is_some _ some in
          let kept : beside (f.t ∷ f.rest) (key.content.now ∷ k.rest) ≡ key.content.now ∷ beside f.rest k.rest = rw null refl in
          record {
            here = o.here ++ text key.content.now ∷ [];
            names = k.rest;
            trees = f.rest;
            holding = holding_kept form [] run left others o.here (map text k.rest) (text key.content.now) (kind_number key.kind) key.content.now
                (subst (λ (ks : List (List ℕ)). Holding form [] run left o.here (map text ks)) k.split o.holding) k.is_first;
            words_hold = f.others_hold;
            enough = few;
            writing = subst (λ us. IsWriting form w us around whole)
                (ap (λ ks. o.here ++ (map text ks ++ coming)) (split_both ∙ kept)
                ∙ sym (append_assoc o.here (text key.content.now ∷ []) (map text (beside f.rest k.rest) ++ coming))) o.writing;
          }

      pub key_dropped : (w' : Writer) → IsWriting form w' (map text (beside o.trees o.names) ++ coming) around whole → kind ≡ 0
          → KeysOpen form others others after w' coming around whole
      key_dropped w' copied none =
          let null : is_null f.t ≡ true = sym (null_kind form f.t _ _ f.part) ∙ is_none _ none in
          record {
            here = [];
            names = k.rest;
            trees = f.rest;
            holding = holding_begun form others (map text k.rest) k.is_first.others_hold;
            words_hold = f.others_hold;
            enough = few;
            writing = subst (λ us. IsWriting form w' (map text us ++ coming) around whole) (split_both ∙ (rw null refl)) copied;
          }

module _ (form : Form) (t : Tree) (e : ContainerEntries) (h : AreEntriesOf form t e) (w : Writer) (around : Around) (whole : Tree)
    (writing : IsWriting form w (entries_kept t) around whole) where
  -- some keys stay
  pub record SomeKeys : Type 0 where
    pub names : List (List ℕ)
    pub trees : List Tree
    pub names_hold : HoldTrees form e.keys (map text names)
    pub trees_hold : HoldTrees form e.values trees
    pub enough : length names ≤ length trees
    pub coming : IsWriting form w (map text (beside trees names) ++ values_kept t) around whole

pub some_keys_stay : (form : Form) (t : Tree) (e : ContainerEntries) (h : AreEntriesOf form t e) (w : Writer) (around : Around) (whole : Tree)
    (writing : IsWriting form w (entries_kept t) around whole) → SomeKeys form t e h w around whole writing
some_keys_stay form (array ts) e h w around whole writing = record {
  names = [];
  trees = elements ts;
  names_hold = h.1;
  trees_hold = h.2;
  enough = omega arith;
  coming = subst (λ (ks : List (List ℕ)). IsWriting form w (map text ks ++ values_kept (array ts)) around whole) (sym (beside_none (elements ts))) writing;
}
some_keys_stay form (object ps) e h w around whole writing = grind (arith, elements, values, keys_of-members, values_of-members, as_many_keys, beside_keys)
some_keys_stay form _ e h w around whole writing = absurd h

pub begun_with : (form : Form) (left : ValuesLeft) (w : Writer) (around : Around) (t whole : Tree) → HoldValues form left t
    → IsWriting form w (values_kept t) around whole → Begins form left w around whole
begun_with form left w around t whole h writing = grind arith

-- ---- how much is left

abbrev pub room : ValuesLeft → ℕ
room left = length left.entries.words.now + length left.entries.contents.now + 1

abbrev pub rooms : List Outer → ℕ
rooms [] = 0
rooms (o ∷ os) = room o.left + rooms os

pub rooms-pushed : (around around' : List Outer) (o : Outer) → around' ≡ around ++ o ∷ [] → rooms around' ≡ rooms around + room o.left
rooms-pushed around around' o e = ap rooms e ∙ more around
  where
    more : (os : List Outer) → rooms (os ++ o ∷ []) ≡ rooms os + room o.left
    more [] = omega arith
    more (p ∷ os) = omega (arith, more os)
