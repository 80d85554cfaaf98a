-- The iterators over pairs and over elements, their first item, and the keys of an object as entries.
use Rattle.jsonb_doc.proofs.Common.{common_steps, ◌≡◌, ◌≢◌, ℕ, ◌<◌, List, [], ◌∷◌, ◌++◌, length, Option, Some, ap, arith, IsUtf8, Tree, object, Pairs, no_pairs, pair, keys, values, pairs_in, NumberReader, Form, number_reader, Decodes, AreValues, AreKeys, key_words, key_bytes, BeginWith, HasFirstEntry, IsContent, HasPairsLeft, HasKeysLeft, HasElementsLeft, SameOption, KeyIter, ValueIter, PairIter, StandBefore, IsCut, Holds, HasPairParts, ObjectParts, Object, Trees, array, trees_in, ArrayParts, Array, ElementIter, ◌-◌, take, refl, length-append, take_at, HoldKeys, AreEntries, append_assoc, map, text, trees_of, key_trees}
use Rattle.jsonb_doc.proofs.Entries.{begin_key, HoldKeys-before}
use Rattle.jsonb_doc.proofs.Containers.{entries_of, HoldsPairs-keys, Decodes-object, Holds-pairs, Decodes-array, Holds-elements}

-- the iterators of a tree's pairs and of its values
abbrev pub IsPairsOf : Form → Tree → Option PairIter → Type 0
IsPairsOf form t found = SameOption (HasPairsLeft form) found (pairs_in t)

abbrev pub IsValuesOf : Form → Tree → Option ValueIter → Type 0
IsValuesOf form t found = SameOption (λ it ps. HasElementsLeft form it.elements (values ps)) found (pairs_in t)

-- these bytes are what follows the keys of an object
abbrev pub SkipsKeys : ObjectParts → List ℕ → Type 0
SkipsKeys p found = (parts : List (List ℕ)) (rest : List ℕ) → StandBefore parts p.key_words.now p.contents.now rest → found ≡ rest

module _ (form : Form) (p : ObjectParts) (none : (parts : List (List ℕ)) (rest : List ℕ) → StandBefore parts p.key_words.now p.contents.now rest → ⊥) where
  pub HoldsPairs-skipped : (ps : Pairs) → HasPairParts (number_reader form) ps p → ⊥
  HoldsPairs-skipped ps h = none (keys ps) h.rest (HoldKeys-before (keys ps) _ _ h.rest (HoldsPairs-keys (number_reader form) ps p h))

  pub Holds-skipped : (t : Tree) → Holds (number_reader form) t (Object p) → ⊥
  Holds-skipped t h = grind (arith, HoldsPairs-skipped)

pub HoldsPairs-values : (number_at : NumberReader) (ps : Pairs) (p : ObjectParts) (found : List ℕ) → (h : HasPairParts number_at ps p) → SkipsKeys p found
    → found ≡ h.rest
HoldsPairs-values number_at ps p found h skips = skips (keys ps) h.rest (HoldKeys-before (keys ps) _ _ h.rest (HoldsPairs-keys number_at ps p h))

-- the first of the pairs, as the bytes hold it
pub record FirstPair (form : Form) (it : PairIter) (ps : Pairs) : Type 0 where
  pub key : List ℕ
  pub value : Tree
  pub others : Pairs
  pub rest : List ℕ
  pub whole : ps ≡ pair key value others
  pub utf8 : IsUtf8 key
  pub are_keys : AreKeys (keys others)
  pub begin : BeginWith it.key_words.now it.key_bytes.now 1 key (key_words (keys others)) (key_bytes (keys others) ++ rest)
  pub entry : HasFirstEntry (IsContent (number_reader form) value) (AreValues (number_reader form) others) it.value_words.now it.value_contents.now

pub HasPairsLeft-first : (form : Form) (it : PairIter) (ps : Pairs) → 0 < length it.key_words.now → HasPairsLeft form it ps → FirstPair form it ps
HasPairsLeft-first form it no_pairs some h = absurd (omega (arith, ap length h.words))
HasPairsLeft-first form it (pair key t ps) some h =
    let more = begin_key it.key_words.now it.key_bytes.now h.rest key (keys ps) h.are_keys.0.1 h.words h.bytes in
    search (arith, key, t, ps, h.rest, h.are_keys.0.0, h.are_keys.2, more, h.values)

-- the iterators of an object's parts
pub HoldsPairs-left : (form : Form) (ps : Pairs) (it : PairIter) (p : ObjectParts) → it.key_words.now ≡ p.key_words.now → it.key_bytes.now ≡ p.contents.now
    → it.value_words.now ≡ p.value_words.now
    → SkipsKeys p it.value_contents.now → HasPairParts (number_reader form) ps p → HasPairsLeft form it ps
HoldsPairs-left form ps it p key_words key_bytes value_words skips held =
    grind (arith, common_steps, HoldsPairs-values, HoldsPairs-values (number_reader form) ps p _ held skips)

pub IsPairsOf-some : (form : Form) (t : Tree) (it : PairIter) (p : ObjectParts) → Holds (number_reader form) t (Object p)
    → ((f : Form) (ps : Pairs) → HasPairParts (number_reader f) ps p → HasPairsLeft f it ps) → IsPairsOf form t (Some it)
IsPairsOf-some form t it p h e = grind arith

pub IsPairsOf-refused : (form : Form) (t : Tree) (p : ObjectParts) → Holds (number_reader form) t (Object p)
    → ((f : Form) (ps : Pairs) → HasPairParts (number_reader f) ps p → ⊥) → ⊥
IsPairsOf-refused form t p h e = grind arith

pub IsValuesOf-some : (form : Form) (t : Tree) (it : ValueIter) (p : ObjectParts) → it.elements.entries.words.now ≡ p.value_words.now
    → SkipsKeys p it.elements.entries.contents.now → Holds (number_reader form) t (Object p) → IsValuesOf form t (Some it)
IsValuesOf-some form (object ps) it p words skips held =
    search (arith, words, HoldsPairs-values (number_reader form) ps p _ held skips, entries_of (number_reader form) ps _ _ held.values)
IsValuesOf-some form _ it p words skips held = absurd held

-- a document that is cut into the parts of an object has no other tree
pub only_object : (form : Form) (bytes : List ℕ) (p : ObjectParts) → IsCut bytes (Object p) → (t : Tree) → Decodes form bytes t
    → ((ps : Pairs) → t ≢ object ps) → ⊥
only_object form bytes p cut t h other =
    grind (arith, Holds-pairs form bytes t p (Decodes-object form bytes p cut t h) h)

-- the first of the keys, as the bytes hold it
pub record FirstKey (it : KeyIter) (ks : List (List ℕ)) : Type 0 where
  pub key : List ℕ
  pub others : List (List ℕ)
  pub rest : List ℕ
  pub whole : ks ≡ key ∷ others
  pub utf8 : IsUtf8 key
  pub are_keys : AreKeys others
  pub begin : BeginWith it.key_words.now it.key_bytes.now 1 key (key_words others) (key_bytes others ++ rest)

pub HasKeysLeft-first : (it : KeyIter) (ks : List (List ℕ)) → 0 < length it.key_words.now → HasKeysLeft it ks → FirstKey it ks
HasKeysLeft-first it [] some h = absurd (omega (arith, ap length h.words))
HasKeysLeft-first it (key ∷ ks) some h =
    search (arith, key, ks, h.rest, h.are_keys.0.0, h.are_keys.2, begin_key it.key_words.now it.key_bytes.now h.rest key ks h.are_keys.0.1 h.words h.bytes)

-- the iterator of a tree's elements
abbrev pub IsElementsOf : Form → Tree → Option ElementIter → Type 0
IsElementsOf form t found = SameOption (HasElementsLeft form) found (trees_in t)

-- the iterator of an array's parts
pub IsElementsOf-some : (form : Form) (t : Tree) (it : ElementIter) (p : ArrayParts) → it.entries.words.now ≡ p.words.now
    → it.entries.contents.now ≡ p.contents.now → Holds (number_reader form) t (Array p) → IsElementsOf form t (Some it)
IsElementsOf-some form t it p h e k = grind arith

-- a document that is cut into the parts of an array has no other tree
pub only_array : (form : Form) (bytes : List ℕ) (p : ArrayParts) → IsCut bytes (Array p) → (t : Tree) → Decodes form bytes t
    → ((ts : Trees) → t ≢ array ts) → ⊥
only_array form bytes p cut t h other =
    grind (arith, Holds-elements form bytes t p (Decodes-array form bytes p cut t h) h)

pub key_entries : (number_at : NumberReader) (ks : List (List ℕ)) → AreKeys ks → AreEntries number_at (key_trees ks) (key_words ks) (key_bytes ks)
key_entries number_at [] are = (refl, refl)
key_entries number_at (key ∷ ks) are = search (arith, key_entries number_at ks are.2)

pub keys_held : (number_at : NumberReader) (ks : List (List ℕ)) (words contents : List ℕ) → AreEntries number_at (trees_of (map text ks)) words contents
    → AreKeys ks → HoldKeys ks words contents []
keys_held number_at [] words contents h are = record { are_keys = tt; words_joined = h.0; bytes_joined = h.1 }
keys_held number_at (key ∷ ks) words contents h are = grind (arith, keys_held number_at ks h.other_words h.other_contents h.others are.2, append_assoc)

-- what precedes the rest
pub front_of : (contents front rest : List ℕ) → contents ≡ front ++ rest → take (length contents - length rest) contents ≡ front
front_of contents front rest h = grind (arith, take_at, length-append)
