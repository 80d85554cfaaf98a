-- What the iterators over elements, members and keys store.
use Rattle.std.specs.Prelude.{◌≡◌, ℕ, List, ◌++◌}
use Rattle.jsonb_doc.specs.Tree.{Trees, Pairs, keys}
use Rattle.jsonb_doc.specs.Payload.{Form, number_reader}
use Rattle.jsonb_doc.specs.Format.{AreEntries, AreKeys, AreValues, key_words, key_bytes}
use Rattle.jsonb_doc.specs.declared.element_iter.ElementIter.{ElementIter}
use Rattle.jsonb_doc.specs.declared.pair_iter.PairIter.{PairIter}
use Rattle.jsonb_doc.specs.declared.key_iter.KeyIter.{KeyIter}

-- Holds if these trees are left in the iterator.
pub record HasElementsLeft (form : Form) (it : ElementIter) (ts : Trees) : Type 0 where
  pub entries : AreEntries (number_reader form) ts it.entries.words.now it.entries.contents.now

-- Holds if these pairs are left in the iterator. Other bytes may follow the keys.
pub record HasPairsLeft (form : Form) (it : PairIter) (ps : Pairs) : Type 0 where
  pub rest : List ℕ
  pub are_keys : AreKeys (keys ps)
  pub words : it.key_words.now ≡ key_words (keys ps)
  pub bytes : it.key_bytes.now ≡ key_bytes (keys ps) ++ rest
  pub values : AreValues (number_reader form) ps it.value_words.now it.value_contents.now

-- Holds if these keys are left in the iterator. Other bytes may follow them.
pub record HasKeysLeft (it : KeyIter) (ks : List (List ℕ)) : Type 0 where
  pub rest : List ℕ
  pub are_keys : AreKeys ks
  pub words : it.key_words.now ≡ key_words ks
  pub bytes : it.key_bytes.now ≡ key_bytes ks ++ rest
