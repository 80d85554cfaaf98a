-- What the iterators over elements, members, keys and values read, in any bytes.
use Rattle.std.specs.Prelude.{◌≡◌, ◌⊎◌, ℕ, ◌≤◌, List, [], ◌++◌, length, IsUtf8, Option, Some, None, Result, Ok, Err, IfSome, IfNone, IfOk, IfErr}
use Rattle.std.specs.Borrow.{Bor}
use Rattle.jsonb_doc.specs.AnyBytes.Parts.{AreArrayParts, AreObjectParts, BeginWithNone, words_left}
use Rattle.jsonb_doc.specs.Format.{BeginWith}
use Rattle.jsonb_doc.specs.AnyBytes.Items.{IsItemOf, HasItem, item_size}
use Rattle.jsonb_doc.specs.Answer.{IsDecodingError}
use Rattle.jsonb_doc.specs.declared.item.Item.{Item}
use Rattle.jsonb_doc.specs.declared.element_iter.ElementIter.{ElementIter}
use Rattle.jsonb_doc.specs.declared.error.Error.{Error}
use Rattle.jsonb_doc.specs.declared.pair_iter.PairIter.{PairIter}
use Rattle.jsonb_doc.specs.declared.key_iter.KeyIter.{KeyIter}
use Rattle.jsonb_doc.specs.declared.value_iter.ValueIter.{ValueIter}

-- Holds if the bytes are the header of an array, and all that is left in the iterator.
abbrev pub HasWholeArray : List ℕ → ElementIter → Type 0
HasWholeArray bytes it = AreArrayParts bytes it.entries.words.now it.entries.contents.now

-- Holds if the first entry that is left is of this kind and content, and the others are left.
abbrev pub PassesElement : ElementIter → ℕ → List ℕ → ElementIter → Type 0
PassesElement before kind content after =
    BeginWith before.entries.words.now before.entries.contents.now kind content
    after.entries.words.now after.entries.contents.now

-- Holds if the result is what is read, on any bytes. While entry words remain there is a result: the item in the first
-- entry, or an error if it has none. After an entry whose end is not known nothing remains.
abbrev pub ReadsElement : ElementIter → Option (Result Item Error) → ElementIter → Type 0
ReadsElement before None after = before.entries.words.now ≡ []
ReadsElement before (Some (Ok item)) after =
    (kind : ℕ) × (content : List ℕ) × PassesElement before kind content after × IsItemOf kind content item
ReadsElement before (Some (Err e)) after =
    (BeginWithNone before.entries.words.now before.entries.contents.now × (after.entries.words.now ≡ []))
    ⊎ ((kind : ℕ) × (content : List ℕ) × PassesElement before kind content after × (HasItem kind content → ⊥))

-- Holds if this is what a call of `next` does, on any bytes: it yields an item, an error or `None`, and after `None`
-- nothing more.
pub record NextElement (before : ElementIter) (r : Option (Result Item Error)) (after : ElementIter) : Type 0 where
  pub reads : ReadsElement before r after
  pub errors : IfSome r (λ x. IfErr x IsDecodingError)
  pub ended : IfNone r (words_left after.entries.words.now ≡ 0)
  pub size : IfSome r (λ x. IfOk x (λ item. item_size item ≤ length before.entries.contents.now))
  pub room : length after.entries.contents.now ≤ length before.entries.contents.now

-- Holds if the bytes are the header of an object, and all words and contents of the iterator, the keys before the
-- values. The contents of values end with the bytes.
abbrev pub HasWholeObject : List ℕ → PairIter → Type 0
HasWholeObject bytes it =
    AreObjectParts bytes it.key_words.now it.value_words.now it.key_bytes.now
    × ((keys : List ℕ) × (it.key_bytes.now ≡ keys ++ it.value_contents.now))

-- Holds if the first key that is left has these bytes, the first value is of this kind and content, and the others are
-- left.
pub record PassesPair (before : PairIter) (key : List ℕ) (kind : ℕ) (content : List ℕ) (after : PairIter) : Type 0 where
  pub key_kind : ℕ
  pub name : BeginWith before.key_words.now before.key_bytes.now key_kind key after.key_words.now after.key_bytes.now
  pub value : BeginWith before.value_words.now before.value_contents.now kind content
      after.value_words.now after.value_contents.now

-- Holds if the result is what is read, on any bytes. While words of keys remain there is a result: the first key and
-- the item of its value, or an error if the key is not a string or the value has no item. After a member whose end is
-- not known nothing remains.
abbrev pub ReadsPair : PairIter → Option (Result (Bor (List ℕ) × Item) Error) → PairIter → Type 0
ReadsPair before None after = before.key_words.now ≡ []
ReadsPair before (Some (Ok given)) after =
    (kind : ℕ) × (content : List ℕ) × PassesPair before given.0.now kind content after × IsUtf8 given.0.now
    × IsItemOf kind content given.1
ReadsPair before (Some (Err e)) after =
    ((BeginWithNone before.key_words.now before.key_bytes.now
    ⊎ BeginWithNone before.value_words.now before.value_contents.now)
    × (after.key_words.now ≡ []))
    ⊎ ((key : List ℕ) × (kind : ℕ) × (content : List ℕ) × PassesPair before key kind content after
    × (IsUtf8 key → HasItem kind content → ⊥))

-- Holds if this is what a call of `next` does, on any bytes: it yields a member, an error or `None`, and after `None`
-- nothing more.
pub record NextPair (before : PairIter) (r : Option (Result (Bor (List ℕ) × Item) Error))
    (after : PairIter) : Type 0 where
  pub reads : ReadsPair before r after
  pub errors : IfSome r (λ x. IfErr x IsDecodingError)
  pub ended : IfNone r (words_left after.key_words.now ≡ 0)
  pub size : IfSome r (λ x. IfOk x (λ given. item_size given.1 ≤ length before.value_contents.now))
  pub room : length after.value_contents.now ≤ length before.value_contents.now

-- Holds if the bytes are the header of an object, and all words of keys and all contents of the iterator, with the
-- words of values between.
abbrev pub HasAllKeys : List ℕ → KeyIter → Type 0
HasAllKeys bytes it =
    (value_words : List ℕ) × AreObjectParts bytes it.key_words.now value_words it.key_bytes.now

-- Holds if the first key that is left has these bytes, and the others are left.
abbrev pub PassesKey : KeyIter → List ℕ → KeyIter → Type 0
PassesKey before key after =
    (kind : ℕ) × BeginWith before.key_words.now before.key_bytes.now kind key after.key_words.now after.key_bytes.now

-- Holds if the result is what is read, on any bytes. While words remain there is a result: the first key, or an error
-- if it is not a string. After a key whose end is not known nothing remains.
abbrev pub ReadsKey : KeyIter → Option (Result (Bor (List ℕ)) Error) → KeyIter → Type 0
ReadsKey before None after = before.key_words.now ≡ []
ReadsKey before (Some (Ok given)) after = PassesKey before given.now after × IsUtf8 given.now
ReadsKey before (Some (Err e)) after =
    (BeginWithNone before.key_words.now before.key_bytes.now × (after.key_words.now ≡ []))
    ⊎ ((key : List ℕ) × PassesKey before key after × (IsUtf8 key → ⊥))

-- Holds if this is what a call of `next` does, on any bytes: it yields a key, an error or `None`, and after `None`
-- nothing more.
pub record NextKey (before : KeyIter) (r : Option (Result (Bor (List ℕ)) Error)) (after : KeyIter) : Type 0 where
  pub reads : ReadsKey before r after
  pub errors : IfSome r (λ x. IfErr x IsDecodingError)
  pub ended : IfNone r (words_left after.key_words.now ≡ 0)

-- Holds if the bytes are the header of an object, the words of its keys, all words of the iterator, the keys, and all
-- contents of the iterator.
abbrev pub HasAllValues : List ℕ → ValueIter → Type 0
HasAllValues bytes it =
    (key_words keys : List ℕ)
    × AreObjectParts bytes key_words it.elements.entries.words.now (keys ++ it.elements.entries.contents.now)
