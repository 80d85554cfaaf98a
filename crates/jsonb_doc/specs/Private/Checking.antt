-- Results of a check.
use Rattle.std.specs.Prelude.{◌≡◌, ℕ, List, Result, Ok, Err, Bool, true, ◌↔◌, ◌+◌, ◌≤◌, length, ◌++◌, Option, Some, None, ⊤, IsUtf8}
use Rattle.std.specs.Ordering.{nat_cmp}
use Rattle.std.specs.Cmp.Lexicographic.{slice_cmp}
use Rattle.std.specs.declared.cmp.Ordering.TheVariants.{Less}
use Rattle.jsonb_doc.specs.Tree.{Tree, Trees}
use Rattle.jsonb_doc.specs.Payload.{NumberReader, number_of}
use Rattle.jsonb_doc.specs.AnyBytes.Unsupported.{number_or_unsupported}
use Rattle.jsonb_doc.specs.Format.{IsContent, AreEntries, IsDocument, AreKeys, key_words, key_bytes}
use Rattle.jsonb_doc.specs.declared.error.Error.{Error}
use Rattle.jsonb_doc.specs.declared.error.Error.TheVariants.{InvalidJsonb, UnsupportedNumber}

-- The result decides whether a fact holds, and otherwise whether it would with unsupported payloads as numbers.
abbrev pub IsValidationError : (NumberReader → Type 0) → Error → Type 0
IsValidationError Holds UnsupportedNumber = ¬ Holds number_of × Holds number_or_unsupported
IsValidationError Holds InvalidJsonb = ¬ Holds number_or_unsupported
IsValidationError Holds _ = ⊥

abbrev pub Validates : {A : Type 0} → (NumberReader → Type 0) → Result A Error → Type 0
Validates Holds (Ok x) = Holds number_of
Validates Holds (Err e) = IsValidationError Holds e

-- some tree has the bytes as its content, as the content of its entries, as its document
abbrev pub HasContent : ℕ → List ℕ → NumberReader → Type 0
HasContent kind bytes number_at = (t : Tree) × IsContent number_at t kind bytes

abbrev pub HasEntries : List ℕ → List ℕ → NumberReader → Type 0
HasEntries words contents number_at = (ts : Trees) × AreEntries number_at ts words contents

abbrev pub HasDocument : List ℕ → NumberReader → Type 0
HasDocument bytes number_at = (t : Tree) × IsDocument number_at t bytes

-- the key may follow this one, if there is one
abbrev pub IsAbove : Option (List ℕ) → List ℕ → Type 0
IsAbove None key = ⊤
IsAbove (Some last) key = slice_cmp nat_cmp last key ≡ Less

-- a string that may follow this key, if there is one
abbrev pub IsNextKey : Option (List ℕ) → List ℕ → Type 0
IsNextKey last bytes = IsUtf8 bytes × IsAbove last bytes

-- the words and the bytes are those of some keys, and the rest follows them
abbrev pub HasKeys : List ℕ → List ℕ → List ℕ → Type 0
HasKeys words bytes rest = (ks : List (List ℕ)) × AreKeys ks × (words ≡ key_words ks) × (bytes ≡ key_bytes ks ++ rest)

-- The bytes are the content of a container whose entries have these words and contents.
pub record HasParts (bytes words contents : List ℕ) : Type 0 where
  pub shorter : 4 + length contents ≤ length bytes
  pub same : (number_at : NumberReader) → HasContent 5 bytes number_at ↔ HasEntries words contents number_at

-- the container that is left, if there is one, has its content
abbrev pub HasLarge : Option (List ℕ) → NumberReader → Type 0
HasLarge None number_at = ⊤
HasLarge (Some bytes) number_at = HasContent 5 bytes number_at

-- what is left is no longer than the whole
abbrev pub IsNoLonger : Option (List ℕ) → List ℕ → Type 0
IsNoLonger None whole = ⊤
IsNoLonger (Some bytes) whole = length bytes ≤ length whole

-- The rest decides the whole: it holds if the rest does and, without unsupported numbers, if none was read.
pub record ReducesTo (is_supported : Bool) (Whole Left : NumberReader → Type 0) : Type 0 where
  pub lenient : Whole number_or_unsupported ↔ Left number_or_unsupported
  pub strict : Whole number_of ↔ ((is_supported ≡ true) × Left number_of)
