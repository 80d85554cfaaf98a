-- From the result of a look-up to the lines that show it.
use Rattle.std.proofs.Common.{◌≡◌, ◌++◌, ℕ, List, [], ◌∷◌, append-nil, arith, sym, Option, Some, None, Result, Ok, Err, ◌⊎◌, inl, inr, refl, ap, codes}
use Rattle.std.specs.Prelude.{IfSome, Vec, option_to_list}
use Rattle.std.specs.Int.{w8}
use Rattle.std.specs.declared.alloc.Global.{Global}
use Rattle.hex.specs.Hex.{encode_lower}
use Rattle.jsonb.specs.Error.{Error}
use Rattle.jsonb.specs.Error.TheVariants.{OutOfMemory}
use Rattle.jsonb.specs.Bytes.{AreBytes}
use Rattle.jsonb.specs.Tree.{Tree}
use Rattle.jsonb.specs.Payload.{Form, any}
use Rattle.jsonb.specs.Format.{Decodes}
use Rattle.jsonb.specs.OwnedJsonb.{OwnedJsonb}
use Rattle.jsonb.specs.Documents.{MakesOption}
use Rattle.jsonb.specs.KeyPathGrammar.{Key, key_path}
use Rattle.jsonb.specs.Depth.{deepest}
use Rattle.jsonb.specs.KeyAnswer.{GivesKey}
use Rattle.jsonb.specs.Places.{tree_at_steps}
use Rattle.jsonb.specs.SortableKey.{sortable_key}
use Rattle.jsonb_tool.specs.Output.{IsOutputOf, OnDocument, ShowsTrees}
use Rattle.jsonb_tool.specs.Private.Lines.{document_line, found_text}
use Rattle.jsonb_tool.specs.Requests.{get, key}

-- what was found is shown by its line
ShowsTree-found : (form : Form) (o : Option Tree) (found : Option OwnedJsonb)
    → IfSome found AreBytes → MakesOption form o (Ok found) → ShowsTrees form (option_to_list o) (Ok (found_text found))
ShowsTree-found form None None all h = ([], tt, refl)
ShowsTree-found form None (Some d) all h = cc
ShowsTree-found form (Some t) None all h = absurd h
ShowsTree-found form (Some t) (Some d) all h = (document_line d ∷ [], ((d, all, h, refl), tt), sym (append-nil (document_line d)))

-- an error other than `OutOfMemory` means that the tree is too large
ShowsTree-refused : (form : Form) (o : Option Tree) (e : Error)
    → (e ≡ OutOfMemory → ⊥) → MakesOption form o (Err e) → ShowsTrees form (option_to_list o) (Err e)
ShowsTree-refused form None e other h = absurd (other h)
ShowsTree-refused form (Some t) e other (inl h) = absurd (other h)
ShowsTree-refused form (Some t) e other (inr h) = (h.0, (0, t, omega arith, refl, h.1))

-- the error of a look-up in bytes that decode: `OutOfMemory`, or an outcome on the document
ShowsTree-refusals : (bytes : List ℕ) (meant : Tree → Option Tree) (e : Error)
    → ((t : Tree) × Decodes any bytes t)
    → ((form : Form) (t : Tree) → Decodes form bytes t → MakesOption form (meant t) (Err e))
    → (e ≡ OutOfMemory) ⊎ OnDocument bytes (λ form t. ShowsTrees form (option_to_list (meant t))) (Err e)
ShowsTree-refusals bytes meant OutOfMemory decodes h = inl refl
ShowsTree-refusals bytes meant e decodes h =
    inr (inl (decodes, λ form t d. ShowsTree-refused form (meant t) e (λ q. cc) (h form t d)))

-- ---- the outcome of `get`, if its path parses as these steps and the bytes decode

-- the result of a look-up by the steps
abbrev pub LooksUp : List Key → List ℕ → Result (Option OwnedJsonb) Error → Type 0
LooksUp steps bytes r = (form : Form) (t : Tree) → Decodes form bytes t → MakesOption form (tree_at_steps steps t) r

-- the lines of `get` if the look-up succeeded
pub Gets-found : (path bytes : List ℕ) (steps : List Key) (found : Option OwnedJsonb) (lines : List ℕ)
    → key_path path ≡ Some steps → ((t : Tree) × Decodes any bytes t) → LooksUp steps bytes (Ok found)
    → IfSome found AreBytes → lines ≡ found_text found → IsOutputOf (get path bytes) (Ok lines)
Gets-found path bytes steps found lines read decodes looked all line =
    rw (read, line) (inl (decodes, λ form t h. ShowsTree-found form (tree_at_steps steps t) found all (looked form t h)))

-- its error if the look-up failed
pub Gets-refused : (path bytes : List ℕ) (steps : List Key) (e : Error)
    → key_path path ≡ Some steps → ((t : Tree) × Decodes any bytes t) → LooksUp steps bytes (Err e)
    → (e ≡ OutOfMemory) ⊎ IsOutputOf (get path bytes) (Err e)
Gets-refused path bytes steps e read decodes looked =
    rw read (ShowsTree-refusals bytes (tree_at_steps steps) e decodes looked)

-- ---- the outcome of `key`, if the bytes decode

-- the result of building the key
abbrev pub MakesKeyOf : List ℕ → Result (Vec ℕ Global) Error → Type 0
MakesKeyOf bytes r = (form : Form) (t : Tree) → Decodes form bytes t → GivesKey w8 (deepest t) r (λ v. v.items ≡ sortable_key w8 t 0)

-- the line of `key` if a key was built
pub ShowsKeyOf-made : (bytes : List ℕ) (made : Vec ℕ Global) (lines : List ℕ)
    → ((t : Tree) × Decodes any bytes t) → MakesKeyOf bytes (Ok made) → lines ≡ encode_lower made.items ++ codes "\n"
    → IsOutputOf (key bytes) (Ok lines)
ShowsKeyOf-made bytes made lines decodes h line =
    rw line (inl (decodes, λ form t d. let k = h form t d in (ap (λ (xs : List ℕ). encode_lower xs ++ codes "\n") k.0, k.1)))

-- its error if no key was built
pub ShowsKeyOf-refused : (bytes : List ℕ) (e : Error)
    → ((t : Tree) × Decodes any bytes t) → MakesKeyOf bytes (Err e)
    → (e ≡ OutOfMemory) ⊎ IsOutputOf (key bytes) (Err e)
ShowsKeyOf-refused bytes OutOfMemory decodes h = inl refl
ShowsKeyOf-refused bytes e decodes h =
    inr (inl (decodes, h))
