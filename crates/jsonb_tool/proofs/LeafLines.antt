-- From the leaves of a document to the lines that show them.
use Rattle.std.proofs.Common.{◌≡◌, ◌++◌, ℕ, suc, All, arith, List, [], ◌∷◌, flat_map, map, refl, ap, false, codes}
use Rattle.jsonb.specs.KeyPathViews.{key_paths_view}
use Rattle.std.specs.List.{AllZip, concat}
use Rattle.hex.specs.Hex.{encode_lower}
use Rattle.jsonb.specs.KeyPathGrammar.{Key}
use Rattle.jsonb.specs.KeyPathText.{key_path_text}
use Rattle.jsonb.specs.KeyPaths.{KeyPaths}
use Rattle.jsonb.specs.Making.{IsPairOf}
use Rattle.jsonb.specs.Leaves.{Leaf, leaves}
use Rattle.jsonb.specs.OwnedJsonb.{OwnedJsonb}
use Rattle.jsonb.specs.Payload.{Form}
use Rattle.jsonb.specs.Bytes.{AreBytes}
use Rattle.jsonb.specs.Tree.{Tree}
use Rattle.jsonb_tool.specs.Output.{IsLeafLine, ShowsEach}
use Rattle.jsonb_tool.specs.Private.Lines.{leaf_line, leaf_lines}

-- lines one after the other
pub joined : {A : Type 0} (line_of : A → List ℕ) (xs : List A) → flat_map line_of xs ≡ concat (map line_of xs)
joined line_of [] = refl
joined line_of (x ∷ xs) = ap (λ rest. line_of x ++ rest) (joined line_of xs)

lines_of : (form : Form) (found : List (KeyPaths × OwnedJsonb)) (all : List Leaf) → All (λ x. AreBytes x.1) found
    → AllZip (IsPairOf key_paths_view form) found all → AllZip (IsLeafLine form) all (map leaf_line found)
lines_of form [] [] bytes each = tt
lines_of form [] (leaf ∷ all) bytes each = absurd each
lines_of form (x ∷ found) [] bytes each = absurd each
lines_of form (x ∷ found) (leaf ∷ all) bytes each =
    let shown = ap (λ (steps : List Key). encode_lower x.1 ++ (codes " " ++ key_path_text steps ++ codes "\n")) each.0.0 in
    ((x.1, bytes 0 x (omega arith), each.0.1, shown), lines_of form found all (λ k y l. bytes (suc k) y (omega (arith, l))) each.1)

all_lines : (form : Form) (found : List (KeyPaths × OwnedJsonb)) (all : List Leaf) → All (λ x. AreBytes x.1) found
    → AllZip (IsPairOf key_paths_view form) found all → ShowsEach (IsLeafLine form) all (leaf_lines found)
all_lines form [] all bytes each = ([], lines_of form [] all bytes each, refl)
all_lines form (x ∷ found) all bytes each =
    (map leaf_line (x ∷ found), lines_of form (x ∷ found) all bytes each, joined leaf_line (x ∷ found))

-- documents of the leaves are shown by their lines
pub shows_leaves : (form : Form) (t : Tree) (found : List (KeyPaths × OwnedJsonb)) (lines : List ℕ)
    → All (λ x. AreBytes x.1) found → AllZip (IsPairOf key_paths_view form) found (leaves false t) → lines ≡ leaf_lines found
    → ShowsEach (IsLeafLine form) (leaves false t) lines
shows_leaves form t found lines bytes each is = rw is (all_lines form found (leaves false t) bytes each)
