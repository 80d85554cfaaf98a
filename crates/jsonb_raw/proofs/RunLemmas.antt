-- Runs of entries, the containers that they make, and walks that keep some of them.
use Rattle.jsonb_raw.proofs.Common.{◌≡◌, inr, ℕ, ◌+◌, ◌^◌, ◌<◌, ◌≤◌, List, [], ◌∷◌, ◌++◌, length, map, take, drop, get_or, Option, Some, Result, refl, sym, ap, subst, ◌∙◌, arith, append-nil, None, append_assoc, insert, keys_of, values_of, Tree, Trees, text, array, object, trees_of, pairs_of, elements, Pairs, no_pairs, pair, values, members, Form, number_reader, AreEntries, entry_word, IsShort, HasShortElements, IsTooLarge, IsOutOfMemoryOrTooLarge, Error, trees_of-elements, keys_of-members, Holds, ArrayParts, Entries, HeaderKind, Make, AreSortedKeys, too_many, within_parts, OwnedJsonb, Makes, as_elements, HoldTrees, RunsHold, AreElementsOf, IsTooLongRoot, IsTooLongElement, IsFirst, TakesFirst, HoldPairs, ArePairsOf, AreContainerEntries, Holding, PairsHeld, PairsOpen, IsFirstPair, TakesFirstPair, many_keys, kind_number, ObjectParts, ContainerEntries, StoredEntry, PairEntries, FirstPair, PairRuns, entries_append, one_entry, zero, suc, HasPairEntriesLeft}
use Rattle.jsonb_doc.specs.declared.container.Container.TheVariants.{Array, Object}
use Rattle.jsonb_doc.specs.declared.layout.HeaderKind.TheVariants as header_kind
use Rattle.jsonb_raw.proofs.AnswerLemmas.{drop_first}
use Rattle.std.proofs.Math.Seq.{take-append_seam, drop-append_seam}
use Rattle.std.proofs.lemmas.Str.{IsUtf8-nil, IsUtf8-append, IsCharBoundary-at_seam}
use Rattle.std.specs.Str.{IsUtf8, IsCharBoundary}

-- ---- runs one after the other

pub no_runs : (form : Form) → RunsHold form [] []
no_runs form = refl

pub one_run : (form : Form) (entries : Entries) (xs : List Tree) → HoldTrees form entries xs → RunsHold form (entries ∷ []) xs
one_run form entries xs h = subst (RunsHold form (entries ∷ [])) (append-nil xs) ((xs, [], h, (no_runs form), refl))

pub two_runs : (form : Form) (a b : Entries) (xs ys : List Tree) → HoldTrees form a xs → HoldTrees form b ys → RunsHold form (a ∷ b ∷ []) (xs ++ ys)
two_runs form a b xs ys h g = (xs, ys, h, (one_run form b ys g), refl)

pub three_runs : (form : Form) (a b c : Entries) (xs ys zs : List Tree) → HoldTrees form a xs → HoldTrees form b ys → HoldTrees form c zs
    → RunsHold form (a ∷ b ∷ c ∷ []) (xs ++ (ys ++ zs))
three_runs form a b c xs ys zs h g k = (xs, (ys ++ zs), h, (two_runs form b c ys zs g k), refl)

-- the first of the runs that are left
pub record FirstRun (form : Form) (run : Entries) (runs : List Entries) (ts : List Tree) : Type 0 where
  pub xs : List Tree
  pub ys : List Tree
  pub holds : HoldTrees form run xs
  pub others_hold : RunsHold form runs ys
  pub joined : ts ≡ xs ++ ys

pub first_run : (form : Form) (runs : List Entries) (i : ℕ) (run : Entries) (ts : List Tree) → i < length runs → run ≡ get_or runs i run
    → RunsHold form (drop i runs) ts → FirstRun form run (drop (i + 1) runs) ts
first_run form runs i run ts inside is h = by (subst (λ (rs : List Entries). RunsHold form rs ts) (drop_first runs i run inside is) h)
  where
    by : RunsHold form (run ∷ drop (i + 1) runs) ts → FirstRun form run (drop (i + 1) runs) ts
    by (xs, ys, holds, rest, joined) = record { xs = xs; ys = ys; holds = holds; others_hold = rest; joined = joined }

-- ---- what runs make

pub array_made : (n : ℕ) (ts : List Tree) → n ≡ length ts → Make header_kind.Array n (ts ++ []) (array (trees_of ts))
array_made n ts is = (is ∙ ap length (sym (append-nil ts)), ap (λ (us : List Tree). array (trees_of us)) (sym (append-nil ts)))

pub object_made : (n : ℕ) (ps : List (List ℕ × Tree)) → AreSortedKeys (keys_of ps) → n ≡ length (map text (keys_of ps))
    → Make header_kind.Object n (map text (keys_of ps) ++ values_of ps) (object (pairs_of ps))
object_made n ps sorted is = (ps, is ∙ many_keys ps, sorted, refl, refl)

-- too many entries have no document
pub too_many_made : (form : Form) (kind : HeaderKind) (n : ℕ) (ts : List Tree) (t : Tree) → Make kind n ts t → 2 ^ 29 ≤ n → IsTooLarge form t
too_many_made form kind n ts t m many = λ within. too_many form kind n ts t m many (within_parts form kind n ts t m within)

-- ---- arrays

short_among : (form : Form) (xs ys : List Tree) (t : Tree) → HasShortElements form (trees_of (xs ++ t ∷ ys)) → IsShort form t
short_among form [] ys t h = h.0
short_among form (x ∷ xs) ys t h = short_among form xs ys t h.2

-- a document of the elements of several fails if that of one does
pub refused_between : (form : Form) (xs ys : List Tree) (t : Tree) (e : Error) → IsTooLongRoot form t e
    → IsOutOfMemoryOrTooLarge form (array (trees_of (xs ++ t ∷ ys))) e
refused_between form xs ys t e h = inr (h.0, λ within. h.1 (short_among form xs ys t within.1))

pub refused_front : (form : Form) (t : Tree) (ys : List Tree) (e : Error) → IsTooLongElement form t e
    → IsOutOfMemoryOrTooLarge form (array (trees_of (as_elements t ++ ys))) e
refused_front form t ys e h = rw h.1 (refused_between form [] ys t e h.0)

pub refused_back : (form : Form) (xs : List Tree) (t : Tree) (e : Error) → IsTooLongElement form t e
    → IsOutOfMemoryOrTooLarge form (array (trees_of (xs ++ as_elements t))) e
refused_back form xs t e h = rw h.1 (refused_between form xs [] t e h.0)

pub refused_beside : (form : Form) (t u : Tree) (place : ℕ) (e : Error) → IsTooLongElement form t e
    → IsOutOfMemoryOrTooLarge form (array (trees_of (insert (as_elements t) place u))) e
refused_beside form t u place e h = rw h.1 (at place)
  where
    at : (n : ℕ) → IsOutOfMemoryOrTooLarge form (array (trees_of (insert (t ∷ []) n u))) e
    at zero = refused_between form (u ∷ []) [] t e h.0
    at (suc n) = refused_between form [] (take n [] ++ u ∷ drop n []) t e h.0

-- the entries of an array, by its parts
pub entries_of_array : (form : Form) (t : Tree) (p : ArrayParts) (entries : Entries) → entries.words.now ≡ p.words.now → entries.contents.now ≡ p.contents.now
    → Holds (number_reader form) t (Array p) → AreElementsOf form t (Some entries)
entries_of_array form t p entries h e k = grind (arith, trees_of-elements)

-- a tree with such entries is an array
pub array_of_entries : (form : Form) (t : Tree) (found : Option Entries) (entries : Entries) → found ≡ Some entries → AreElementsOf form t found
    → (ts : Trees) × (t ≡ array ts) × HoldTrees form entries (elements ts)
array_of_entries form t found entries h e = grind arith

pub no_entries : (form : Form) (ts : List Tree) (r : Result OwnedJsonb Error) → 0 ≡ length ts → Makes form (array (trees_of [])) r
    → Makes form (array (trees_of ts)) r
no_entries form [] r is h = h
no_entries form (t ∷ ts) r is h = absurd (omega (arith, is))

abbrev pub Member : Type 0
Member = List ℕ × Tree

pub value_there : (form : Form) (pairs : PairEntries) (ps : List Member) (key : StoredEntry × Entries)
    → TakesFirst form pairs.keys (map text (keys_of ps)) (Some key) → TakesFirst form pairs.values (values_of ps) None → ⊥
value_there form pairs [] key k v = k
value_there form pairs (p ∷ ps) key k v = v

-- ---- a run that is open

-- one run more
pub run_after : (form : Form) (runs : List Entries) (run : Entries) (xs ys : List Tree) → RunsHold form runs xs → HoldTrees form run ys
    → RunsHold form (runs ++ run ∷ []) (xs ++ ys)
run_after form [] run xs ys h g = (ys, [], g, refl, ap (λ (l : List Tree). l ++ ys) h ∙ sym (append-nil ys))
run_after form (r ∷ runs) run xs ys (zs, us, first, rest, is) g = grind (arith, append_assoc, run_after form runs run us ys rest g)

pub holding_again : (form : Form) (runs : List Entries) (entries : Entries) (xs ys : List Tree) → RunsHold form runs xs → HoldTrees form entries ys
    → Holding form runs entries entries xs ys
holding_again form runs entries xs ys h left = grind (arith, append-nil)

pub holding_begun : (form : Form) (entries : Entries) (ys : List Tree) → HoldTrees form entries ys → Holding form [] entries entries [] ys
holding_begun form entries ys h = holding_again form [] entries [] ys refl h

module _ (form : Form) (runs : List Entries) (run left others : Entries) (xs ys : List Tree) (t : Tree) (kind : ℕ) (content : List ℕ)
    (h : Holding form runs run left xs (t ∷ ys)) (f : IsFirst form left t ys kind content others) where
  -- the next entry is kept
  pub holding_kept : Holding form runs run others (xs ++ t ∷ []) ys
  holding_kept = record {
    before = h.before;
    here = h.here ++ t ∷ [];
    run_words = h.run_words ++ entry_word kind (length content);
    run_contents = h.run_contents ++ content;
    trees_joined = ap (λ (l : List Tree). l ++ t ∷ []) h.trees_joined ∙ append_assoc h.before h.here (t ∷ []);
    held = h.held;
    run_held = grind (arith, entries_append, one_entry);
    words_joined = cc (append_assoc h.run_words (entry_word kind (length content)) others.words.now);
    contents_joined = cc (append_assoc h.run_contents content others.contents.now);
    left_hold = f.others_hold;
  }

module _ (form : Form) (runs : List Entries) (run left : Entries) (xs ys : List Tree) (h : Holding form runs run left xs ys) where
  -- an empty run holds no trees
  pub holding_none : length h.run_words ≡ 0 → RunsHold form runs xs
  holding_none none = subst (RunsHold form runs) (sym (append-nil h.before) ∙ ap (λ (l : List Tree). h.before ++ l) (sym (no_trees_here h.here h.run_held)) ∙ sym h.trees_joined) h.held
    where
      no_trees_here : (ts : List Tree) → AreEntries (number_reader form) (trees_of ts) h.run_words h.run_contents → ts ≡ []
      no_trees_here [] are = refl
      no_trees_here (t ∷ ts) are = absurd (omega (arith, none, ap length are.begin.words_joined))

-- ---- the pairs of an object as it is stored

pub values_of-members : (ps : Pairs) → values_of (members ps) ≡ elements (values ps)
values_of-members no_pairs = refl
values_of-members (pair key t ps) = ap (λ us. t ∷ us) (values_of-members ps)

module _ (form : Form) where
  pub pairs_are : (ps : Pairs) (pairs : PairEntries) → HasPairEntriesLeft form pairs ps → HoldPairs form pairs (members ps)
  pairs_are ps pairs h =
      record { names = rw (keys_of-members ps) h.names; parts = rw (values_of-members ps, trees_of-elements (values ps)) h.parts }

  -- the pairs of an object, by its parts
  pub pairs_by_parts : (t : Tree) (p : ObjectParts) (pairs : PairEntries) → Holds (number_reader form) t (Object p)
      → ((ps : Pairs) → Holds (number_reader form) (object ps) (Object p) → HasPairEntriesLeft form pairs ps) → ArePairsOf form t (Some pairs)
  pairs_by_parts (object ps) p pairs h e = pairs_are ps pairs (e ps h)
  pairs_by_parts _ p pairs h e = absurd h

  pub no_parts : (t : Tree) (p : ObjectParts) → Holds (number_reader form) t (Object p)
      → ((ps : Pairs) → Holds (number_reader form) (object ps) (Object p) → ⊥) → ⊥
  no_parts t p h k = grind arith

  pub object_entries_are : (t : Tree) (p : ObjectParts) (e : ContainerEntries) → e.kind ≡ header_kind.Object → Holds (number_reader form) t (Object p)
      → ((ps : Pairs) → Holds (number_reader form) (object ps) (Object p) → HasPairEntriesLeft form (record { keys = e.keys; values = e.values }) ps)
      → AreContainerEntries form t (Some e)
  object_entries_are (object ps) p e kind h f = (kind, h.are_keys, pairs_are ps _ (f ps h))
  object_entries_are _ p e kind h f = absurd h

  pub array_entries_are : (t : Tree) (p : ArrayParts) (e : ContainerEntries) → e.kind ≡ header_kind.Array → e.keys.words.now ≡ [] → e.keys.contents.now ≡ []
      → e.values.words.now ≡ p.words.now → e.values.contents.now ≡ p.contents.now → Holds (number_reader form) t (Array p)
      → AreContainerEntries form t (Some e)
  array_entries_are (array ts) p e kind no_words no_contents words contents h =
      (kind, record { entries = (no_words, no_contents) }, entries_of_array form (array ts) p e.values words contents h)
  array_entries_are _ p e kind no_words no_contents words contents h = absurd h

-- ---- runs of pairs

pub text_names : (xs ys : List Member) → map text (keys_of (xs ++ ys)) ≡ map text (keys_of xs) ++ map text (keys_of ys)
text_names [] ys = refl
text_names (x ∷ xs) ys = ap (λ ts. text x.0 ∷ ts) (text_names xs ys)

pub all_values : (xs ys : List Member) → values_of (xs ++ ys) ≡ values_of xs ++ values_of ys
all_values [] ys = refl
all_values (x ∷ xs) ys = ap (λ ts. x.1 ∷ ts) (all_values xs ys)

-- members whose keys have no words are none
pub pairs_none_added : (form : Form) (runs : PairRuns) (pairs : PairEntries) (xs ys : List Member) → length pairs.keys.words.now ≡ 0 → PairsHeld form runs xs
    → HoldPairs form pairs ys → PairsHeld form runs (xs ++ ys)
pairs_none_added form runs pairs xs ys none h g =
    subst (PairsHeld form runs) (sym (append-nil xs) ∙ ap (λ (l : List Member). xs ++ l) (sym (no_pairs_here ys g.names.entries))) h
  where
    no_pairs_here : (ys : List Member)
        → AreEntries (number_reader form) (trees_of (map text (keys_of ys))) pairs.keys.words.now pairs.keys.contents.now → ys ≡ []
    no_pairs_here [] are = refl
    no_pairs_here (y ∷ ys) are = absurd (omega (arith, none, ap length are.begin.words_joined))

-- a run of members begins after the runs
pub pairs_begun : (form : Form) (runs : PairRuns) (pairs : PairEntries) (xs ys : List Member) → PairsHeld form runs xs → HoldPairs form pairs ys
    → PairsOpen form runs pairs pairs xs ys
pairs_begun form runs pairs xs ys h g = search (holding_again, pairs.keys, h.names, g.names, pairs.values, h.parts, g.parts)

-- the next pair is kept
pub pair_kept : (form : Form) (runs : PairRuns) (run left : PairEntries) (first : FirstPair) (xs ys : List Member) (p : Member)
    → PairsOpen form runs run left xs (p ∷ ys) → IsFirstPair form left p ys first → PairsOpen form runs run first.others (xs ++ p ∷ []) ys
pair_kept form runs run left first xs ys p h e = search (arith, text_names, holding_kept, all_values)

pub others_hold : (form : Form) (left : PairEntries) (first : FirstPair) (ys : List Member) (p : Member) → IsFirstPair form left p ys first
    → HoldPairs form first.others ys
others_hold form left first ys p f = record { names = f.name.others_hold; parts = f.value.others_hold }

pub left_holds : (form : Form) (runs : PairRuns) (run left : PairEntries) (xs ys : List Member) → PairsOpen form runs run left xs ys → HoldPairs form left ys
left_holds form runs run left xs ys h = record { names = h.names.left_hold; parts = h.parts.left_hold }

-- ---- the first of the entries or members that are left, in a walk that takes one after the other

-- Holds if this is the entry of the first tree, and those after it are of the others.
pub record EntryTaken (form : Form) (left : Entries) (ts : List Tree) (entry : StoredEntry) (others : Entries) : Type 0 where
  pub t : Tree
  pub rest : List Tree
  pub split : ts ≡ t ∷ rest
  pub is_first : IsFirst form left t rest (kind_number entry.kind) entry.content.now others

pub entry_taken : (form : Form) (left : Entries) (ts : List Tree) (found : Option (StoredEntry × Entries)) (entry : StoredEntry) (others : Entries)
    → found ≡ Some (entry, others) → TakesFirst form left ts found → EntryTaken form left ts entry others
entry_taken form left ts found entry others h e = grind arith

pub no_entry_left : (form : Form) (entries : Entries) (ts : List Tree) (found : Option (StoredEntry × Entries)) → found ≡ None
    → TakesFirst form entries ts found → ts ≡ []
no_entry_left form entries ts found h e = grind arith

-- Holds if the first of the strings is this entry's content.
pub record TextFirst (form : Form) (left : Entries) (ks : List (List ℕ)) (entry : StoredEntry) (others : Entries) : Type 0 where
  pub rest : List (List ℕ)
  pub split : ks ≡ entry.content.now ∷ rest
  pub is_first : IsFirst form left (text entry.content.now) (map text rest) (kind_number entry.kind) entry.content.now others

pub text_first : (form : Form) (left : Entries) (ks : List (List ℕ)) (found : Option (StoredEntry × Entries)) (entry : StoredEntry) (others : Entries)
    → found ≡ Some (entry, others) → TakesFirst form left (map text ks) found → TextFirst form left ks entry others
text_first form left [] found entry others is h = absurd (rw is at h)
text_first form left (k ∷ ks) found entry others is h = grind arith

pub no_text_left : (form : Form) (left : Entries) (ks : List (List ℕ)) (found : Option (StoredEntry × Entries)) → found ≡ None
    → TakesFirst form left (map text ks) found → ks ≡ []
no_text_left form left [] found is h = refl
no_text_left form left (k ∷ ks) found is h = absurd (rw is at h)

-- Holds if this is the first of the members.
pub record PairTaken (form : Form) (left : PairEntries) (ps : List Member) (first : FirstPair) : Type 0 where
  pub value : Tree
  pub rest : List Member
  pub split : ps ≡ (first.key.now, value) ∷ rest
  pub is_first : IsFirstPair form left (first.key.now, value) rest first

pub pair_taken : (form : Form) (left : PairEntries) (ps : List Member) (found : Option FirstPair) (first : FirstPair) → found ≡ Some first
    → TakesFirstPair form left ps found → PairTaken form left ps first
pair_taken form left ps found first h e = grind arith

pub no_pair_left : (form : Form) (pairs : PairEntries) (ps : List Member) (found : Option FirstPair) → found ≡ None
    → TakesFirstPair form pairs ps found → ps ≡ []
no_pair_left form pairs ps found h e = grind arith

-- ---- names that are one after the other

names_utf8 : (form : Form) (ks : List (List ℕ)) (words contents : List ℕ) → AreEntries (number_reader form) (trees_of (map text ks)) words contents
    → IsUtf8 contents
names_utf8 form [] words contents h = subst IsUtf8 (sym h.1) IsUtf8-nil
names_utf8 form (k ∷ ks) words contents h =
    subst IsUtf8 (sym h.begin.contents_joined)
    (IsUtf8-append h.content h.other_contents (subst IsUtf8 (sym h.part.1) h.part.2) (names_utf8 form ks h.other_words h.other_contents h.others))

-- all of them are one string
pub names_read : (form : Form) (pairs : PairEntries) (ps : List Member) → HoldPairs form pairs ps → IsUtf8 pairs.keys.contents.now
names_read form pairs ps h = names_utf8 form (keys_of ps) _ _ h.names.entries

pub no_members : (form : Form) (pairs : PairEntries) (ps : List Member) (count : ℕ) → HoldPairs form pairs ps
    → ((form : Form) (ts : List Tree) → HoldTrees form pairs.keys ts → count ≡ length ts) → count ≡ 0 → ps ≡ []
no_members form pairs [] count h counted none = refl
no_members form pairs (p ∷ ps) count h counted none = absurd (omega (arith, counted form (map text (keys_of (p ∷ ps))) h.names, none))

module _ (form : Form) (run : PairEntries) (p : Member) (ps : List Member) (first : FirstPair) (names : List ℕ) (h : IsFirstPair form run p ps first)
    (is : names ≡ run.keys.contents.now) where
  name_first : names ≡ first.key.now ++ first.others.keys.contents.now
  name_first = is ∙ h.name.begin.contents_joined ∙ ap (λ key. key ++ first.others.keys.contents.now) (sym h.key)

  -- it is split after the first
  pub name_boundary : IsCharBoundary names (length first.key.now)
  name_boundary = IsCharBoundary-at_seam names first.key.now first.others.keys.contents.now name_first (names_utf8 form (keys_of ps) _ _ h.name.others_hold.entries)

  pub name_split : (front back : List ℕ) → front ≡ take (length first.key.now) names → back ≡ drop (length first.key.now) names
      → (front ≡ first.key.now) × (back ≡ first.others.keys.contents.now)
  name_split front back one other = (
    one ∙ ap (take (length first.key.now)) name_first ∙ take-append_seam first.key.now first.others.keys.contents.now,
    other ∙ ap (drop (length first.key.now)) name_first ∙ drop-append_seam first.key.now first.others.keys.contents.now,
  )
