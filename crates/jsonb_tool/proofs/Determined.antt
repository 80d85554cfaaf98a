-- What the program writes is determined by its arguments, and so is why they have no result, if their document is canonical
-- or does not decode, unless an allocation fails.
use Rattle.std.proofs.Common.{◌≡◌, ◌∙◌, ◌++◌, ◌⊎◌, ℕ, zero, suc, List, [], ◌∷◌, arith, sym, subst, refl, ap, ap₂, inl, inr, is_some, false, Option, Some, None, Ok, Err, IsOkAnd, codes}
use Rattle.std.specs.Prelude.{⊤, Any, IsErrAnd, MatchOption, MatchResult, option_to_list}
use Rattle.std.specs.Int.{w8}
use Rattle.std.specs.List.{AllZip}
use Rattle.hex.specs.Hex.{encode_lower}
use Rattle.jsonb.specs.Answer.{Outcome}
use Rattle.jsonb.specs.Error.{Error}
use Rattle.jsonb.specs.Error.TheVariants.{OutOfMemory, InvalidKeyPath, InvalidJsonPath}
use Rattle.jsonb.specs.Tree.{Tree}
use Rattle.jsonb.specs.Payload.{Form, any, canonical}
use Rattle.jsonb.specs.Format.{Decodes}
use Rattle.jsonb.specs.Limits.{IsTooLarge}
use Rattle.jsonb.specs.Depth.{deepest}
use Rattle.jsonb.specs.Leaves.{Leaf}
use Rattle.jsonb.specs.Leaves as leaf
use Rattle.jsonb.specs.Places.{tree_at_steps}
use Rattle.jsonb.specs.SortableKey.{sortable_key}
use Rattle.jsonb.specs.PathTree.{Step}
use Rattle.jsonb.specs.KeyAnswer.{GivesKey}
use Rattle.jsonb.specs.KeyPathGrammar.{Key, key_path}
use Rattle.jsonb.specs.PathGrammar.{json_path}
use Rattle.jsonb.specs.Meaning.{meaning, predicate}
use Rattle.jsonb.specs.declared.selector.document.Mode.TheVariants.{Lax}
use Rattle.jsonb.proofs.Common.{one_canonical_document}
use Rattle.jsonb.proofs.DecodedFits.{decoded_fits}
use Rattle.jsonb.proofs.Entries.{document_lenient}
use Rattle.jsonb_tool.specs.Answers.{IsAnswer, Prints}
use Rattle.jsonb_tool.specs.Output.{IsDamage, IsLeafLine, IsLineOf, IsOutputOf, OnDocument, ShowsEach, ShowsTrees, text_of, truth_line}
use Rattle.jsonb_tool.specs.Problems.{IsProblemOf, IsRefusal, IsUsage, path_problem}
use Rattle.jsonb_tool.specs.Requests.{Request, get, key, leaves, select, path_match, request_of}
use Rattle.jsonb_tool.specs.declared.problem.Problem.{Problem}
use Rattle.jsonb_tool.specs.declared.problem.Problem.TheVariants.{Refused}

-- ---- lines

-- two lines of a tree
same_line : (rest : List ℕ) (t : Tree) (line other : List ℕ) → IsLineOf rest canonical t line → IsLineOf rest canonical t other → other ≡ line
same_line rest t line other (bytes, all, d, is) (bytes', all', d', is') =
    let same = one_canonical_document bytes' t all' d' ∙ sym (one_canonical_document bytes t all d) in
    is' ∙ ap (λ (b : List ℕ). encode_lower b ++ rest) same ∙ sym is

same_lines : {A : Type 0} (IsLine : A → List ℕ → Type 0) → ((x : A) (line other : List ℕ) → IsLine x line → IsLine x other → other ≡ line)
    → (xs : List A) (lines others : List (List ℕ)) → AllZip IsLine xs lines → AllZip IsLine xs others → others ≡ lines
same_lines IsLine one [] [] [] h k = refl
same_lines IsLine one (x ∷ xs) (line ∷ lines) (other ∷ others) h k =
    ap₂ (λ first rest. first ∷ rest) (one x line other h.0 k.0) (same_lines IsLine one xs lines others h.1 k.1)
same_lines IsLine one _ _ _ h k = grind arith

-- a list is shown in one way, if each of its elements has one line
same_text : {A : Type 0} (IsLine : A → List ℕ → Type 0) → ((x : A) (line other : List ℕ) → IsLine x line → IsLine x other → other ≡ line)
    → (xs : List A) (text other : List ℕ) → ShowsEach IsLine xs text → ShowsEach IsLine xs other → other ≡ text
same_text IsLine one xs text other (lines, h, is) (others, k, is') =
    is' ∙ ap text_of (same_lines IsLine one xs lines others h k) ∙ sym is

-- trees that have lines are not too large
none_large : (rest : List ℕ) (ts : List Tree) (lines : List (List ℕ)) → AllZip (IsLineOf rest canonical) ts lines
    → Any (IsTooLarge canonical) ts → ⊥
none_large rest [] lines h (k, t, l, is, large) = omega (arith, l)
none_large rest (t ∷ ts) [] h some = absurd h
none_large rest (t ∷ ts) (line ∷ lines) ((bytes, all, d, shown), h) (zero, u, l, is, large) =
    subst (IsTooLarge canonical) (sym is) large (decoded_fits canonical bytes t all d).1
none_large rest (t ∷ ts) (line ∷ lines) h (suc k, u, l, is, large) = none_large rest ts lines h.1 (k, u, omega (arith, l), is, large)

-- ---- outcomes

-- the outcomes are the same, unless an allocation fails
abbrev Agree : Outcome (List ℕ) → Outcome (List ℕ) → Type 0
Agree r s = (r ≡ Err OutOfMemory) ⊎ (s ≡ Err OutOfMemory) ⊎ (s ≡ r)

same_trees : (ts : List Tree) (r s : Outcome (List ℕ)) → ShowsTrees canonical ts r → ShowsTrees canonical ts s → Agree r s
same_trees ts (Ok x) (Ok y) h k =
    inr (inr (ap Ok (same_text (IsLineOf (codes "\n") canonical) (same_line (codes "\n")) ts x y h k)))
same_trees ts (Ok x) (Err e) (lines, h, is) k = absurd (none_large (codes "\n") ts lines h k.1)
same_trees ts (Err e) (Ok y) h (lines, k, is) = absurd (none_large (codes "\n") ts lines k h.1)
same_trees ts (Err e) (Err f) h k = inr (inr (ap Err (k.0 ∙ sym h.0)))

same_leaves : (all : List Leaf) (r s : Outcome (List ℕ)) → IsOkAnd r (ShowsEach (IsLeafLine canonical) all)
    → IsOkAnd s (ShowsEach (IsLeafLine canonical) all) → Agree r s
same_leaves all (Ok x) (Ok y) h k = inr (inr (ap Ok (same_text (IsLeafLine canonical) (λ leaf. same_line _ leaf.1) all x y h k)))
same_leaves all (Ok x) (Err e) h k = absurd k
same_leaves all (Err e) s h k = absurd h

same_key : (t : Tree) (text : List ℕ) (r s : Outcome (List ℕ)) → GivesKey w8 (deepest t) r (λ made. made ≡ text)
    → GivesKey w8 (deepest t) s (λ made. made ≡ text) → Agree r s
same_key t text (Ok x) (Ok y) h k = inr (inr (ap Ok (k.0 ∙ sym h.0)))
same_key t text (Ok x) (Err e) h (inl memory) = inr (inl (ap Err memory))
same_key t text (Ok x) (Err e) h (inr k) = let no : ⊥ = omega (arith, h.1, k.1) in absurd no
same_key t text (Err e) s (inl memory) k = inl (ap Err memory)
same_key t text (Err e) (Ok y) (inr h) k = let no : ⊥ = omega (arith, h.1, k.1) in absurd no
same_key t text (Err e) (Err f) (inr h) (inl memory) = inr (inl (ap Err memory))
same_key t text (Err e) (Err f) (inr h) (inr k) = inr (inr (ap Err (k.0 ∙ sym h.0)))

-- of a path that parses, or does not
parsed : {A : Type 0} (o : Option A) (e : Error) (IsOutcome : A → Outcome (List ℕ) → Type 0) (r s : Outcome (List ℕ))
    → ((x : A) → IsOutcome x r → IsOutcome x s → Agree r s) → MatchOption o (r ≡ Err e) (λ x. IsOutcome x r)
    → MatchOption o (s ≡ Err e) (λ x. IsOutcome x s) → Agree r s
parsed None e IsOutcome r s same h k = inr (inr (k ∙ sym h))
parsed (Some x) e IsOutcome r s same h k = same x h k

-- of a meaning, which may be an error
meant : {A : Type 0} (o : Outcome A) (IsOutcome : A → Outcome (List ℕ) → Type 0) (r s : Outcome (List ℕ))
    → ((x : A) → IsOutcome x r → IsOutcome x s → Agree r s) → MatchResult o (λ x. IsOutcome x r) (λ e. r ≡ Err e)
    → MatchResult o (λ x. IsOutcome x s) (λ e. s ≡ Err e) → Agree r s
meant (Ok x) IsOutcome r s same h k = same x h k
meant (Err e) IsOutcome r s same h k = inr (inr (k ∙ sym h))

-- ---- documents

-- the bytes are canonical if they decode
abbrev pub IsCanonical : List ℕ → Type 0
IsCanonical bytes = (t : Tree) → Decodes any bytes t → Decodes canonical bytes t

no_damage : (bytes : List ℕ) (r : Outcome (List ℕ)) → ((t : Tree) × Decodes any bytes t) → IsErrAnd r (IsDamage bytes) → ⊥
no_damage bytes (Ok x) d h = h
no_damage bytes (Err e) d (inl h) = h.1.0 d.0 d.1
no_damage bytes (Err e) d (inr h) = h.1 d.0 (document_lenient d.0 bytes d.1.document)

same_damage : (bytes : List ℕ) (r s : Outcome (List ℕ)) → IsErrAnd r (IsDamage bytes) → IsErrAnd s (IsDamage bytes) → s ≡ r
same_damage bytes (Ok x) s h k = absurd h
same_damage bytes (Err e) (Ok y) h k = absurd k
same_damage bytes (Err e) (Err f) (inl h) (inl k) = ap Err (k.0 ∙ sym h.0)
same_damage bytes (Err e) (Err f) (inl h) (inr k) = absurd (k.1 h.1.1.0 h.1.1.1)
same_damage bytes (Err e) (Err f) (inr h) (inl k) = absurd (h.1 k.1.1.0 k.1.1.1)
same_damage bytes (Err e) (Err f) (inr h) (inr k) = ap Err (k.0 ∙ sym h.0)

on_document : (IsOutcomeOn : Form → Tree → Outcome (List ℕ) → Type 0) (bytes : List ℕ) (r s : Outcome (List ℕ)) → IsCanonical bytes
    → ((t : Tree) → IsOutcomeOn canonical t r → IsOutcomeOn canonical t s → Agree r s)
    → OnDocument bytes IsOutcomeOn r → OnDocument bytes IsOutcomeOn s → Agree r s
on_document IsOutcomeOn bytes r s is same (inl (d, h)) (inl (d', k)) =
    let found = is d.0 d.1 in same d.0 (h canonical d.0 found) (k canonical d.0 found)
on_document IsOutcomeOn bytes r s is same (inl (d, h)) (inr k) = absurd (no_damage bytes s d k)
on_document IsOutcomeOn bytes r s is same (inr h) (inl (d, k)) = absurd (no_damage bytes r d h)
on_document IsOutcomeOn bytes r s is same (inr h) (inr k) = inr (inr (same_damage bytes r s h k))

abbrev pub document_of : Request → List ℕ
document_of (get path document) = document
document_of (key document) = document
document_of (leaves document) = document
document_of (select path document) = document
document_of (path_match path document) = document

-- what `IsOutputOf` says of a document, by request
abbrev IsGot : List Key → Form → Tree → Outcome (List ℕ) → Type 0
IsGot steps form t said = ShowsTrees form (option_to_list (tree_at_steps steps t)) said

abbrev IsKeyText : Form → Tree → Outcome (List ℕ) → Type 0
IsKeyText form t said = GivesKey w8 (deepest t) said (λ text. text ≡ encode_lower (sortable_key w8 t 0) ++ codes "\n")

abbrev AreLeaves : Form → Tree → Outcome (List ℕ) → Type 0
AreLeaves form t said = IsOkAnd said (ShowsEach (IsLeafLine form) (leaf.leaves false t))

abbrev IsSelected : List Step → Form → Tree → Outcome (List ℕ) → Type 0
IsSelected steps form t said = MatchResult (meaning Lax steps t) (λ ts. ShowsTrees form ts said) (λ e. said ≡ Err e)

abbrev IsMatched : List Step → Form → Tree → Outcome (List ℕ) → Type 0
IsMatched steps form t said = MatchResult (predicate Lax steps t) (λ truth. said ≡ Ok (truth_line truth)) (λ e. said ≡ Err e)

outcomes_agree : (request : Request) (r s : Outcome (List ℕ)) → IsCanonical (document_of request) → IsOutputOf request r → IsOutputOf request s
    → Agree r s
outcomes_agree (get path document) r s is h k =
    parsed (key_path path) InvalidKeyPath (λ steps. OnDocument document (IsGot steps)) r s
    (λ steps. on_document (IsGot steps) document r s is (λ t. same_trees (option_to_list (tree_at_steps steps t)) r s)) h k
outcomes_agree (key document) r s is h k =
    on_document IsKeyText document r s is (λ t. same_key t (encode_lower (sortable_key w8 t 0) ++ codes "\n") r s) h k
outcomes_agree (leaves document) r s is h k =
    on_document AreLeaves document r s is (λ t. same_leaves (leaf.leaves false t) r s) h k
outcomes_agree (select path document) r s is h k =
    parsed (json_path path) InvalidJsonPath (λ steps. OnDocument document (IsSelected steps)) r s
    (λ steps. on_document (IsSelected steps) document r s is
    (λ t. meant (meaning Lax steps t) (λ ts said. ShowsTrees canonical ts said) r s (λ ts. same_trees ts r s))) h k
outcomes_agree (path_match path document) r s is h k =
    parsed (json_path path) InvalidJsonPath (λ steps. OnDocument document (IsMatched steps)) r s
    (λ steps. on_document (IsMatched steps) document r s is
    (λ t. meant (predicate Lax steps t) (λ truth said. said ≡ Ok (truth_line truth)) r s (λ truth h k. inr (inr (k ∙ sym h))))) h k

-- ---- lines and status

-- the arguments are not a request, or its document is canonical if it decodes
abbrev pub AreCanonical : List (List ℕ) → Type 0
AreCanonical words = MatchOption (request_of words) ⊤ (λ request. IsCanonical (document_of request))

same_prints : (outcome : Outcome (List ℕ)) (lines other : List ℕ) (status other_status : ℕ) → Prints outcome lines status
    → Prints outcome other other_status → (other ≡ lines) × (other_status ≡ status)
same_prints (Ok text) lines other status other_status h k = (k.0 ∙ sym h.0, k.1 ∙ sym h.1)
same_prints (Err e) lines other status other_status h k = (k.0 ∙ sym h.0, k.1 ∙ sym h.1)

answered : (o : Option Request) (lines other : List ℕ) (status other_status : ℕ)
    → MatchOption o ⊤ (λ request. IsCanonical (document_of request))
    → MatchOption o ((lines ≡ codes "usage\n") × (status ≡ 2))
    (λ request. (outcome : Outcome (List ℕ)) × IsOutputOf request outcome × Prints outcome lines status)
    → MatchOption o ((other ≡ codes "usage\n") × (other_status ≡ 2))
    (λ request. (outcome : Outcome (List ℕ)) × IsOutputOf request outcome × Prints outcome other other_status)
    → Prints (Err OutOfMemory) lines status ⊎ Prints (Err OutOfMemory) other other_status ⊎ ((other ≡ lines) × (other_status ≡ status))
answered None lines other status other_status is h k = inr (inr (k.0 ∙ sym h.0, k.1 ∙ sym h.1))
answered (Some request) lines other status other_status is (r, h, printed) (s, k, printed') = elim (outcomes_agree request r s is h k) [
  | inl memory ↦ inl (subst (λ o. Prints o lines status) memory printed)
  | inr more ↦ elim more [
    | inl memory ↦ inr (inl (subst (λ o. Prints o other other_status) memory printed'))
    | inr same ↦ inr (inr (same_prints r lines other status other_status printed (subst (λ o. Prints o other other_status) same printed')))
  ]
]

-- what the program writes for the same arguments, and its status
pub answers_are_determined : (words : List (List ℕ)) (lines other : List ℕ) (status other_status : ℕ) → AreCanonical words
    → IsAnswer words lines status → IsAnswer words other other_status
    → Prints (Err OutOfMemory) lines status ⊎ Prints (Err OutOfMemory) other other_status ⊎ ((other ≡ lines) × (other_status ≡ status))
answers_are_determined words lines other status other_status is (inr memory) k = inl memory
answers_are_determined words lines other status other_status is (inl h) (inr memory) = inr (inl memory)
answers_are_determined words lines other status other_status is (inl h) (inl k) =
    answered (request_of words) lines other status other_status is h k

-- ---- problems

-- an allocation failed
abbrev pub Memory : Option Problem
Memory = Some (Refused OutOfMemory)

abbrev as_problem : Error → Option Problem
as_problem e = Some (Refused e)

only_memory : (text : List ℕ) (e : Error) → Agree (Ok text) (Err e) → e ≡ OutOfMemory
only_memory text e (inl is) = cc
only_memory text e (inr (inl is)) = cc
only_memory text e (inr (inr is)) = cc

same_error : (e f : Error) → Agree (Err e) (Err f)
    → (as_problem e ≡ Memory) ⊎ (as_problem f ≡ Memory) ⊎ (as_problem f ≡ as_problem e)
same_error e f (inl is) = let memory : e ≡ OutOfMemory = cc in inl (ap as_problem memory)
same_error e f (inr (inl is)) = let memory : f ≡ OutOfMemory = cc in inr (inl (ap as_problem memory))
same_error e f (inr (inr is)) = let same : f ≡ e = cc in inr (inr (ap as_problem same))

refusals_agree : (request : Request) (found other : Option Problem) → IsCanonical (document_of request) → IsRefusal request found
    → IsRefusal request other → (found ≡ Memory) ⊎ (other ≡ Memory) ⊎ (other ≡ found)
refusals_agree request None None is h k = inr (inr refl)
refusals_agree request None (Some (Refused e)) is h (inl memory) = inr (inl (ap as_problem memory))
refusals_agree request None (Some (Refused e)) is (text, h) (inr k) =
    inr (inl (ap as_problem (only_memory text e (outcomes_agree request (Ok text) (Err e) is h k))))
refusals_agree request (Some (Refused e)) other is (inl memory) k = inl (ap as_problem memory)
refusals_agree request (Some (Refused e)) None is (inr h) (text, k) =
    inl (ap as_problem (only_memory text e (outcomes_agree request (Ok text) (Err e) is k h)))
refusals_agree request (Some (Refused e)) (Some (Refused f)) is (inr h) (inl memory) = inr (inl (ap as_problem memory))
refusals_agree request (Some (Refused e)) (Some (Refused f)) is (inr h) (inr k) =
    same_error e f (outcomes_agree request (Err e) (Err f) is h k)
refusals_agree request _ _ is h k = grind arith

on_path : (request : Request) (o : Option Problem) (found other : Option Problem) → IsCanonical (document_of request)
    → MatchOption o (IsRefusal request found) (λ problem. found ≡ Some problem)
    → MatchOption o (IsRefusal request other) (λ problem. other ≡ Some problem)
    → (found ≡ Memory) ⊎ (other ≡ Memory) ⊎ (other ≡ found)
on_path request None found other is h k = refusals_agree request found other is h k
on_path request (Some problem) found other is h k = inr (inr (k ∙ sym h))

explained : (o : Option Request) (found other : Option Problem) → MatchOption o ⊤ (λ request. IsCanonical (document_of request))
    → MatchOption o (MatchOption found ⊥ IsUsage)
    (λ request. MatchOption (path_problem request) (IsRefusal request found) (λ problem. found ≡ Some problem))
    → MatchOption o (MatchOption other ⊥ IsUsage)
    (λ request. MatchOption (path_problem request) (IsRefusal request other) (λ problem. other ≡ Some problem))
    → (found ≡ Memory) ⊎ (other ≡ Memory) ⊎ MatchOption o (is_some other ≡ is_some found) (λ _. other ≡ found)
explained None None other is h k = absurd h
explained None (Some problem) None is h k = absurd k
explained None (Some problem) (Some another) is h k = inr (inr refl)
explained (Some request) found other is h k = on_path request (path_problem request) found other is h k

-- two reasons why the same arguments have no result
pub problems_are_determined : (words : List (List ℕ)) (found other : Option Problem) → AreCanonical words → IsProblemOf words found
    → IsProblemOf words other
    → (found ≡ Memory) ⊎ (other ≡ Memory) ⊎ MatchOption (request_of words) (is_some other ≡ is_some found) (λ _. other ≡ found)
problems_are_determined words found other is h k = explained (request_of words) found other is h k
