use Rattle.jsonb_raw.proofs.Lemmas.{◌≡◌, List, [], ◌∷◌, ◌++◌, Result, Ok, Err, OnOk, MatchResult, All, All-same, All-push, IsOutOfMemory, IsWholePair}
use Rattle.jsonb_raw.proofs.functions.path.leaves.documents.OwnedJsonbLeafOutput.push_leaf.Goals as goal

one_more : {A B E : Type 0} (P : A → Type 0) (old new : List A) (x : A) (F : E → Type 0) (r : Result B E)
    → MatchResult r (λ _. new ≡ old ++ x ∷ []) F → All P old → P x → OnOk r (All P new)
one_more P old new x F (Ok _) added whole is = All-same P _ _ added (All-push P old x whole is)
one_more P old new x F (Err _) added whole is = tt

pub returns-clause-whole : goal.returns-clause-whole
returns-clause-whole c = λ whole.
    one_more IsWholePair c.args.found.now.items c.push_part.new.found.items (c.args.path, c.in_ok-document.document) IsOutOfMemory
    c.push_part.result c.push_part.ensures whole c.in_ok-document.ensures.whole
