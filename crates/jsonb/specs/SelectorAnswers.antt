-- The results of a selector's calls, by the list of their path.
use Rattle.std.specs.Prelude.{◌≡◌, ℕ, Bool, List, ◌∷◌, is_some, Option, Some, Result, Vec, IsOkAnd, IsSomeAnd}
use Rattle.std.specs.declared.alloc.Global.{Global}
use Rattle.std.specs.List.{AllZip, Any}
use Rattle.jsonb_doc.specs.declared.error.Error.{Error}
use Rattle.jsonb_doc.specs.declared.error.Error.TheVariants.{TooLarge}
use Rattle.jsonb_doc.specs.Answer.{Outcome, Refines, SameOption, IsOutOfMemory, ◌or◌when◌}
use Rattle.jsonb_doc.specs.Payload.{Form}
use Rattle.jsonb_doc.specs.Format.{Decodes}
use Rattle.jsonb_doc.specs.Limits.{IsTooLarge}
use Rattle.jsonb_doc.specs.Tree.{Tree, array, trees_of}
use Rattle.jsonb_raw.specs.declared.owned.OwnedJsonb.{OwnedJsonb}
use Rattle.jsonb.specs.Compare.{Truth}
pub use Rattle.jsonb.specs.Meaning.{first_item}
use Rattle.jsonb.specs.Meaning.{Means, predicate}
use Rattle.jsonb.specs.PathTree.{Step}
use Rattle.jsonb.specs.declared.selector.document.Mode.{Mode}

-- An array of several items, otherwise the only one, if there is one.
abbrev pub single_or_array : List Tree → Option Tree
single_or_array (t ∷ u ∷ ts) = Some (array (trees_of (t ∷ u ∷ ts)))
single_or_array ts = first_item ts

-- ---- results

-- Holds if, for any tree that the document decodes to and any meaning of the path there, the result is as stated.
abbrev pub ByMeanings : {A : Type 0} → Mode → List ℕ → List Step
    → (Form → Outcome (List Tree) → Result A Error → Type 0) → Result A Error → Type 0
ByMeanings mode document path Promise answer = (form : Form) (top : Tree) (outcome : Outcome (List Tree))
    → Decodes form document top → Means form mode path top outcome → Promise form outcome answer

-- Holds if the result is all items that the path selects, each as `Shows` relates it to its tree.
abbrev pub AreAll : {A : Type 0} → (Form → A → Tree → Type 0) → Form → Outcome (List Tree) → Result (Vec A Global) Error
    → Type 0
AreAll Shows form outcome answer = Refines (λ v ts. AllZip (Shows form) v.items ts)
    (IsOutOfMemory or TooLarge when IsOkAnd outcome (Any (IsTooLarge form))) answer outcome

-- Holds if the result is an array of the items that the path selects.
abbrev pub IsArrayOf : Form → Outcome (List Tree) → Result OwnedJsonb Error → Type 0
IsArrayOf form outcome answer = Refines (λ made ts. Decodes form made (array (trees_of ts)))
    (IsOutOfMemory or TooLarge when IsOkAnd outcome (λ ts. IsTooLarge form (array (trees_of ts)))) answer outcome

-- Holds if the result is a document of the picked item, if there is one.
abbrev pub IsPicked : (List Tree → Option Tree) → Form → Outcome (List Tree) → Result (Option OwnedJsonb) Error → Type 0
IsPicked pick form outcome answer = Refines (λ found ts. SameOption (Decodes form) found (pick ts))
    (IsOutOfMemory or TooLarge when IsOkAnd outcome (λ ts. IsSomeAnd (pick ts) (IsTooLarge form))) answer outcome

-- Holds if the result is whether the path selects an item.
abbrev pub IsFound : Form → Outcome (List Tree) → Result Bool Error → Type 0
IsFound form outcome answer = Refines (λ b ts. b ≡ is_some (first_item ts)) IsOutOfMemory answer outcome

-- Holds if the result is that of the path as a predicate on the document.
abbrev pub IsTruthOf : Mode → List Step → List ℕ → Result Truth Error → Type 0
IsTruthOf mode path document answer = (form : Form) (top : Tree) → Decodes form document top
    → Refines (λ b c. b ≡ c) IsOutOfMemory answer (predicate mode path top)
