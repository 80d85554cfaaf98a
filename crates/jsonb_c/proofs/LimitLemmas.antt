-- Calls within the limit of a path.
use Rattle.std.proofs.Common.{◌≡◌, ◌∙◌, inl, inr, ap, refl, sym, subst, ℕ, List, Option, Some, None, Result, Ok, Err}
use Rattle.std.specs.Prelude.{◌⊎◌, ◌<◌, ◌≤◌, IsOkAnd, MatchResult, ⊤}
use Rattle.std.specs.Borrow.{Bor}
use Rattle.jsonb_doc.specs.declared.error.Error.{Error}
use Rattle.jsonb.specs.PathTree.{Step}
use Rattle.jsonb.specs.PathViews.{path_view}
use Rattle.jsonb.specs.declared.path.JsonPath.{JsonPath}
use Rattle.jsonb_c.specs.Limits.{WithPath}
use Rattle.std.specs.Prelude.{Vec}
use Rattle.std.specs.declared.alloc.Global.{Global}
use Rattle.std.specs.declared.boxed.Box.{Box}
use Rattle.jsonb.specs.declared.selector.found.FoundItem.{FoundItem}
use Rattle.jsonb_c.specs.Answers.{WritesResult}
use Rattle.jsonb_c.specs.Private.Boxes.{Admits, HoldsItems, Keeps}
use Rattle.jsonb_c.specs.Representation.Prepared.{items_left, json_limit, json_steps}
use Rattle.jsonb_c.specs.Status.{code}
use Rattle.jsonb_c.specs.declared.prepared.path.PreparedPath.{PreparedPath}
use Rattle.jsonb_c.specs.declared.status.Status.{Status}
use Rattle.jsonb_c.specs.declared.status.Status.TheVariants.{Answered, LimitExceeded, NoPath, Refused}

module _ (R S : Type 0) (F G : Status → Type 0) (runs : R → S) (fails : (cause : Status) → F cause → G cause) where
  compared : (limit : ℕ) (said : Result ℕ Error)
      → MatchResult said (λ bound. ((bound ≤ limit) × R) ⊎ ((limit < bound) × F LimitExceeded)) (λ e. F (Refused e))
      → MatchResult said (λ bound. ((bound ≤ limit) × S) ⊎ ((limit < bound) × G LimitExceeded)) (λ e. G (Refused e))
  compared limit (Ok bound) (inl h) = inl (h.0, runs h.1)
  compared limit (Ok bound) (inr h) = inr (h.0, fails LimitExceeded h.1)
  compared limit (Err e) h = fails (Refused e) h

module _ (R S : List Step → Type 0) (F G : Status → Type 0) (path : List Step) (runs : R path → S path)
    (fails : (cause : Status) → F cause → G cause) where
  within : (limit : Option ℕ) (document : List ℕ) → WithPath limit (Some path) document R F → WithPath limit (Some path) document S G
  within None document h = runs h
  within (Some limit) document (said, is, errors, h) = (said, is, errors, compared (R path) (S path) F G runs fails limit said h)

abbrev ok_part : {A B : Type 0} → Result A B → Option A
ok_part (Ok x) = Some x
ok_part (Err e) = None

abbrev err_part : {A B : Type 0} → B → Result A B → B
err_part other (Ok x) = other
err_part other (Err e) = e

apart : {A B : Type 0} (answer : Result A B) (x : A) (e : B) → answer ≡ Ok x → answer ≡ Err e → ⊥
apart answer x e is other = let there : Some x ≡ None = sym (ap ok_part is) ∙ ap ok_part other in cc

same_cause : {A B : Type 0} (answer : Result A B) (x y : B) → answer ≡ Err x → answer ≡ Err y → x ≡ y
same_cause answer x y is other = sym (ap (err_part x) is) ∙ ap (err_part x) other

-- the limit allows the path, or the call fails with the status
pub checked : (limit : Option ℕ) (path : List Step) (document : List ℕ) (said : Result ⊤ Status) (Runs : List Step → Type 0) (Fails : Status → Type 0)
    → WithPath limit (Some path) document (λ _. said ≡ Ok tt) (λ cause. said ≡ Err cause) → MatchResult said (λ _. Runs path) Fails
    → WithPath limit (Some path) document Runs Fails
checked limit path document (Ok x) Runs Fails h runs = within (λ _. Ok x ≡ Ok tt) Runs (λ cause. Ok x ≡ Err cause) Fails path (λ is. runs)
    (λ cause is. absurd (apart (Ok x) x cause refl is)) limit document h
checked limit path document (Err cause) Runs Fails h fails = within (λ _. Err cause ≡ Ok tt) Runs (λ said. Err cause ≡ Err said) Fails path
    (λ is. absurd (apart (Err cause) tt cause is refl)) (λ said is. subst Fails (same_cause (Err cause) cause said refl is) fails)
    limit document h

module _ (limit : Option ℕ) (document : List ℕ) (R S : List Step → Type 0) (F G : Status → Type 0) where
  -- what holds of a call that runs, and of one that fails, in place of other facts
  pub with_path : (kept : Option (List Step)) → ((path : List Step) → R path → S path) → ((cause : Status) → F cause → G cause)
      → WithPath limit kept document R F → WithPath limit kept document S G
  with_path None runs fails h = fails NoPath h
  with_path (Some path) runs fails h = within R S F G path (runs path) fails limit document h

module _ (limit : Option ℕ) (kept : Option (List Step)) (document : List ℕ) (Runs : List Step → Type 0) (Fails : Status → Type 0) where
  ran : (answer : Result (Bor JsonPath) Status) (path : Bor JsonPath) → answer ≡ Ok path → Admits limit kept document answer
      → Runs (path_view path.now) → WithPath limit kept document Runs Fails
  ran answer path is h runs = with_path limit document (λ steps. IsOkAnd answer (λ it. path_view it.now ≡ steps)) Runs
      (λ cause. answer ≡ Err cause) Fails kept (λ steps said. let same : path_view path.now ≡ steps = rw is at said in subst Runs same runs)
      (λ cause other. absurd (apart answer path cause is other)) h

  failed : (answer : Result (Bor JsonPath) Status) (cause : Status) → answer ≡ Err cause → Admits limit kept document answer
      → Fails cause → WithPath limit kept document Runs Fails
  failed answer cause is h fails = with_path limit document (λ steps. IsOkAnd answer (λ it. path_view it.now ≡ steps)) Runs
      (λ said. answer ≡ Err said) Fails kept (λ steps said. let none : ⊥ = rw is at said in absurd none)
      (λ said other. subst Fails (same_cause answer cause said is other) fails) h

  -- the call runs with the path that was admitted, or fails with the status
  pub admitted : (answer : Result (Bor JsonPath) Status) → Admits limit kept document answer
      → MatchResult answer (λ path. Runs (path_view path.now)) Fails → WithPath limit kept document Runs Fails
  admitted (Ok path) h runs = ran (Ok path) path refl h runs
  admitted (Err cause) h fails = failed (Err cause) cause refl h fails

module _ (Promise : List Step → Result (Vec FoundItem Global) Error → Type 0) (Refusals : Error → Type 0)
    (found : Result (Box PreparedPath Global) Status) (left : Option PreparedPath) (status : ℕ) (keeps : Keeps found left status) where
  abbrev AreKept : Result (Vec FoundItem Global) Error → Type 0
  AreKept answer = MatchResult answer (λ it. (status ≡ code Answered) × (items_left left ≡ Some it.items))
      (λ e. (status ≡ code (Refused e)) × (left ≡ None))

  are_kept : (answer : Result (Vec FoundItem Global) Error) (it : Result (Box PreparedPath Global) Status) → HoldsItems answer it
      → Keeps it left status → AreKept answer
  are_kept (Ok items) (Ok made) held k = (k.0, ap items_left k.1 ∙ held)
  are_kept (Err e) (Err cause) held k = (k.0 ∙ ap code held, k.1)
  are_kept (Ok items) (Err cause) held k = absurd held
  are_kept (Err e) (Ok made) held k = absurd held

  kept_of : (steps : List Step) → WritesResult (Promise steps) Refusals (λ answer. HoldsItems answer found)
      → WritesResult (Promise steps) Refusals AreKept
  kept_of steps (answer, is, errors, held) = (answer, is, errors, are_kept answer found held keeps)

  stopped : (cause : Status) → found ≡ Err cause → (status ≡ code cause) × (left ≡ None)
  stopped cause is = let k : Keeps (Err cause) left status = rw is at keeps in k

  -- the items are kept, or nothing is
  pub keeps_items : (source target : Option PreparedPath) → source ≡ target → (document : List ℕ)
      → WithPath (json_limit source) (json_steps source) document
      (λ steps. WritesResult (Promise steps) Refusals (λ answer. HoldsItems answer found)) (λ cause. found ≡ Err cause)
      → WithPath (json_limit target) (json_steps target) document (λ steps. WritesResult (Promise steps) Refusals AreKept)
      (λ cause. (status ≡ code cause) × (left ≡ None))
  keeps_items source target same document h = with_path (json_limit target) document
      (λ steps. WritesResult (Promise steps) Refusals (λ answer. HoldsItems answer found)) (λ steps. WritesResult (Promise steps) Refusals AreKept)
      (λ cause. found ≡ Err cause) (λ cause. (status ≡ code cause) × (left ≡ None)) (json_steps target) kept_of stopped (rw same at h)
