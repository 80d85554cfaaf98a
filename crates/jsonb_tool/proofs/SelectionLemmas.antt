-- From what a path selects, or says, to the lines that show it.
use Rattle.std.proofs.Common.{◌≡◌, ℕ, suc, List, [], ◌∷◌, All, arith, map, Some, Result, Ok, Err, ◌⊎◌, inl, inr, refl, IsOkAnd, codes}
use Rattle.std.specs.Prelude.{Vec, MatchResult}
use Rattle.std.specs.declared.alloc.Global.{Global}
use Rattle.std.specs.List.{AllZip, Any}
use Rattle.jsonb.specs.Error.{Error}
use Rattle.jsonb.specs.Error.TheVariants.{OutOfMemory, TooLarge}
use Rattle.jsonb.specs.Bytes.{AreBytes}
use Rattle.jsonb.specs.Tree.{Tree}
use Rattle.jsonb.specs.Payload.{Form, any}
use Rattle.jsonb.specs.Format.{Decodes}
use Rattle.jsonb.specs.Answer.{Refines, IsOutOfMemory, ◌or◌when◌}
use Rattle.jsonb.specs.OwnedJsonb.{OwnedJsonb}
use Rattle.jsonb.specs.Compare.{Truth}
use Rattle.jsonb.specs.Meaning.{Means, meaning, predicate}
use Rattle.jsonb.specs.PathGrammar.{json_path}
use Rattle.jsonb.specs.PathTree.{Step}
use Rattle.jsonb.specs.declared.selector.document.Mode.TheVariants.{Lax}
use Rattle.jsonb.proofs.ReadMeans.{read_means}
use Rattle.jsonb.specs.Limits.{IsTooLarge}
use Rattle.jsonb_tool.specs.Output.{IsLineOf, IsOutputOf, ShowsTrees, truth_line}
use Rattle.jsonb_tool.specs.Private.Lines.{document_line, found_lines}
use Rattle.jsonb_tool.specs.Requests.{path_match, select}
use Rattle.jsonb_tool.proofs.LeafLines.{joined}

-- ---- `select`

-- the result of a selection by the path
abbrev pub SelectsBy : List Step → List ℕ → Result (Vec OwnedJsonb Global) Error → Type 0
SelectsBy path bytes r = (form : Form) (top : Tree) (outcome : Result (List Tree) Error) → Decodes form bytes top → Means form Lax path top outcome
    → Refines (λ v ts. AllZip (Decodes form) v.items ts) (IsOutOfMemory or TooLarge when IsOkAnd outcome (Any (IsTooLarge form))) r outcome

lines_of : (form : Form) (documents : List OwnedJsonb) (ts : List Tree) → All AreBytes documents → AllZip (Decodes form) documents ts
    → AllZip (IsLineOf (codes "\n") form) ts (map document_line documents)
lines_of form [] [] all h = tt
lines_of form [] (t ∷ ts) all h = absurd h
lines_of form (d ∷ documents) [] all h = absurd h
lines_of form (d ∷ documents) (t ∷ ts) all h =
    ((d, all 0 d (omega arith), h.0, refl), lines_of form documents ts (λ k x l. all (suc k) x (omega (arith, l))) h.1)

shows_trees : (form : Form) (ts : List Tree) (documents : List OwnedJsonb) → All AreBytes documents → AllZip (Decodes form) documents ts
    → ShowsTrees form ts (Ok (found_lines documents))
shows_trees form ts [] all h = ([], lines_of form [] ts all h, refl)
shows_trees form ts (d ∷ documents) all h =
    (map document_line (d ∷ documents), lines_of form (d ∷ documents) ts all h, joined document_line (d ∷ documents))

-- the text of a list, or the error
abbrev ShowsList : Form → Result (List Tree) Error → Result (List ℕ) Error → Type 0
ShowsList form o outcome = MatchResult o (λ ts. ShowsTrees form ts outcome) (λ e. outcome ≡ Err e)

shows_list : (form : Form) (o : Result (List Tree) Error) (v : Vec OwnedJsonb Global) → All AreBytes v.items
    → Refines (λ w ts. AllZip (Decodes form) w.items ts) (IsOutOfMemory or TooLarge when IsOkAnd o (Any (IsTooLarge form))) (Ok v) o
    → ShowsList form o (Ok (found_lines v.items))
shows_list form (Ok ts) v all h = shows_trees form ts v.items all h.ok
shows_list form (Err e) v all h = absurd h.ok

-- an error other than `OutOfMemory` is that of the path, or means that a tree is too large
shows_refusal : (form : Form) (o : Result (List Tree) Error) (e : Error) → (e ≡ OutOfMemory → ⊥)
    → Refines (λ (w : Vec OwnedJsonb Global) ts. AllZip (Decodes form) w.items ts) (IsOutOfMemory or TooLarge when IsOkAnd o (Any (IsTooLarge form))) (Err e) o
    → ShowsList form o (Err e)
shows_refusal form (Ok ts) e other h = elim h.err [
  | inl room ↦ elim room [ inl memory ↦ absurd (other memory) | inr large ↦ large ]
  | inr is ↦ cc
]
shows_refusal form (Err f) e other h = elim h.err [
  | inl room ↦ elim room [ inl memory ↦ absurd (other memory) | inr large ↦ absurd large.1 ]
  | inr is ↦ let same : f ≡ e = cc in rw same refl
]

-- the lines of `select` if the selection succeeded
pub Selects-found : (text bytes : List ℕ) (path : List Step) (found : Vec OwnedJsonb Global) (lines : List ℕ)
    → json_path text ≡ Some path → ((t : Tree) × Decodes any bytes t) → SelectsBy path bytes (Ok found)
    → All AreBytes found.items → lines ≡ found_lines found.items → IsOutputOf (select text bytes) (Ok lines)
Selects-found text bytes path found lines read decodes selected all line =
    rw (read, line) (inl (decodes, λ form t d. shows_list form (meaning Lax path t) found all (selected form t _ d (read_means form Lax text path t read))))

-- its error if the selection failed
pub Selects-refused : (text bytes : List ℕ) (path : List Step) (e : Error)
    → json_path text ≡ Some path → ((t : Tree) × Decodes any bytes t) → SelectsBy path bytes (Err e)
    → (e ≡ OutOfMemory) ⊎ IsOutputOf (select text bytes) (Err e)
Selects-refused text bytes path OutOfMemory read decodes selected = inl refl
Selects-refused text bytes path e read decodes selected =
    inr (rw read (inl (decodes, λ form t d. shows_refusal form (meaning Lax path t) e (λ q. cc) (selected form t _ d (read_means form Lax text path t read)))))

-- ---- `match`

-- the result of a match by the path
abbrev pub MatchesBy : List Step → List ℕ → Result Truth Error → Type 0
MatchesBy path bytes r = (form : Form) (top : Tree) → Decodes form bytes top → Refines (λ b c. b ≡ c) IsOutOfMemory r (predicate Lax path top)

-- the line of the result, or the error
abbrev ShowsTruth : Result Truth Error → Result (List ℕ) Error → Type 0
ShowsTruth o outcome = MatchResult o (λ truth. outcome ≡ Ok (truth_line truth)) (λ e. outcome ≡ Err e)

shows_truth : (o : Result Truth Error) (b : Truth) → Refines (λ b c. b ≡ c) IsOutOfMemory (Ok b) o → ShowsTruth o (Ok (truth_line b))
shows_truth (Ok c) b h = rw h.ok refl
shows_truth (Err e) b h = absurd h.ok

shows_other : (o : Result Truth Error) (e : Error) → (e ≡ OutOfMemory → ⊥) → Refines {A = Truth} (λ b c. b ≡ c) IsOutOfMemory (Err e) o → ShowsTruth o (Err e)
shows_other (Ok c) e other h = elim h.err [ inl memory ↦ absurd (other memory) | inr is ↦ cc ]
shows_other (Err f) e other h = elim h.err [ inl memory ↦ absurd (other memory) | inr is ↦ let same : f ≡ e = cc in rw same refl ]

pub Matches-found : (text bytes : List ℕ) (path : List Step) (b : Truth) (lines : List ℕ)
    → json_path text ≡ Some path → ((t : Tree) × Decodes any bytes t) → MatchesBy path bytes (Ok b)
    → lines ≡ truth_line b → IsOutputOf (path_match text bytes) (Ok lines)
Matches-found text bytes path b lines read decodes matched line =
    rw (read, line) (inl (decodes, λ form t d. shows_truth (predicate Lax path t) b (matched form t d)))

pub Matches-refused : (text bytes : List ℕ) (path : List Step) (e : Error)
    → json_path text ≡ Some path → ((t : Tree) × Decodes any bytes t) → MatchesBy path bytes (Err e)
    → (e ≡ OutOfMemory) ⊎ IsOutputOf (path_match text bytes) (Err e)
Matches-refused text bytes path OutOfMemory read decodes matched = inl refl
Matches-refused text bytes path e read decodes matched =
    inr (rw read (inl (decodes, λ form t d. shows_other (predicate Lax path t) e (λ q. cc) (matched form t d))))
