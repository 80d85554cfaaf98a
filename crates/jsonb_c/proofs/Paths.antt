-- Paths that were read, and text that was not.
use Rattle.std.proofs.Common.{◌≡◌, ◌⊎◌, inl, inr, refl, ap, subst, ℕ, List, false, Option, Some, None, Result, Ok, Err}
use Rattle.std.specs.Prelude.{IfErr, MatchResult, ok_or}
use Rattle.jsonb_doc.specs.declared.error.Error.{Error}
use Rattle.jsonb_doc.specs.declared.error.Error.TheVariants.{InvalidJsonPath, InvalidKeyPath, OutOfMemory}
use Rattle.jsonb_doc.specs.Answer.{IsOutOfMemory, ◌or◌when◌}
use Rattle.jsonb_doc.specs.Format.{Decodes}
use Rattle.jsonb_doc.specs.Payload.{Form}
use Rattle.jsonb_doc.specs.Tree.{Tree}
use Rattle.jsonb_raw.specs.Deletes.{MeetNoPart, without}
use Rattle.jsonb.specs.KeyPathGrammar.{Key}
use Rattle.jsonb.specs.PathGrammar.{json_path}
use Rattle.jsonb.specs.PathTree.{Step}
use Rattle.jsonb.specs.PathDocuments.{HasNoDocument}
use Rattle.jsonb.proofs.DocumentLemmas.{read_has_none}
use Rattle.jsonb_c.specs.Answers.{With, WritesResult}
use Rattle.jsonb_c.specs.Calls.{DeletesPlace}
use Rattle.jsonb_c.specs.Private.Boxes.{ByPath, IsTextRefusal}
use Rattle.jsonb_c.specs.Private.Views.{text_refusal}
use Rattle.jsonb_c.specs.declared.status.Status.{Status}
use Rattle.jsonb_c.specs.declared.status.Status.TheVariants.{Refused}

-- a path that was read has no document, so copying it fails only if an allocation does
pub copy_refused : (text : List ℕ) (path : List Step) (e : Error) → json_path text ≡ Some path → (IsOutOfMemory or InvalidJsonPath when (¬ HasNoDocument path)) e → e ≡ OutOfMemory
copy_refused text path e read (inl memory) = memory
copy_refused text path e read (inr other) = let none : HasNoDocument path = rw read at (read_has_none text) in absurd (other.1 none)

-- ---- text that was not read

pub text_cause : {P : Type 0} (refusal e : Error) (read : Option P) → (IsOutOfMemory or refusal when (read ≡ None)) e
    → IsTextRefusal (text_refusal refusal) read (text_refusal e)
text_cause refusal e read (inl memory) = inl (ap text_refusal memory)
text_cause refusal e read (inr other) = inr (ap text_refusal other.0, other.1)

-- the call runs with the path of the text
pub runs : {P : Type 0} (refusal : Status) (read : Option P) (path : P) (Runs : P → Type 0) (Fails : Status → Type 0)
    → read ≡ Some path → Runs path → With (ok_or read refusal) Runs Fails
runs refusal read path Runs Fails is h = rw is (inl h)

-- the text is not a path, or an allocation failed
pub by_text : {P : Type 0} (refusal cause : Status) (read : Option P) (Runs : P → Type 0) (Fails : Status → Type 0)
    → IsTextRefusal refusal read cause → Fails cause → With (ok_or read refusal) Runs Fails
by_text refusal cause read Runs Fails (inl memory) h = inr (rw (← memory) h)
by_text refusal cause read Runs Fails (inr other) h = rw other.1 (inl (rw (← other.0) h))

-- a call with the key path of the text, whose result is delivered
pub by_key_path : {A : Type 0} (read : Option (List Key)) (Promise : List Key → Result A Error → Type 0) (answer : Result A Error)
    (Refusals : Error → Type 0) (Shown : Result A Error → Type 0) (Fails : Status → Type 0) → ByPath InvalidKeyPath read Promise answer
    → IfErr answer (λ e. Refusals e ⊎ ((e ≡ InvalidKeyPath) × (read ≡ None))) → Shown answer
    → ((e : Error) → Shown (Err e) → Fails (Refused e))
    → With (ok_or read (Refused InvalidKeyPath)) (λ steps. WritesResult (Promise steps) Refusals Shown) Fails
by_key_path None Promise answer Refusals Shown Fails (inl memory) errors shown fails = inr (fails OutOfMemory (subst Shown memory shown))
by_key_path None Promise answer Refusals Shown Fails (inr refused) errors shown fails = inl (fails InvalidKeyPath (subst Shown refused shown))
by_key_path (Some steps) Promise (Ok x) Refusals Shown Fails by errors shown fails = inl (Ok x, by, tt, shown)
by_key_path (Some steps) Promise (Err e) Refusals Shown Fails by (inl refused) shown fails = inl (Err e, by, refused, shown)
by_key_path (Some steps) Promise (Err e) Refusals Shown Fails by (inr other) shown fails = let none : Some steps ≡ None = other.1 in absurd (cc)

-- a path that was not read
pub by_path_refused : {P A : Type 0} (refusal e : Error) (read : Option P) (Promise : P → Result A Error → Type 0) (answer : Result A Error)
    → answer ≡ Err e → (IsOutOfMemory or refusal when (read ≡ None)) e → ((path : P) → Promise path (Err OutOfMemory)) → ByPath refusal read Promise answer
by_path_refused refusal e None Promise answer is (inl memory) promised = inl (rw (is, memory) refl)
by_path_refused refusal e None Promise answer is (inr other) promised = inr (rw (is, other.0) refl)
by_path_refused refusal e (Some path) Promise answer is (inl memory) promised = rw (is, memory) (promised path)
by_path_refused refusal e (Some path) Promise answer is (inr other) promised = cc

-- the document without a value, which is unchanged if there is none
pub as_it_was : (form : Form) (document : List ℕ) (steps : List Key) (t : Tree) (answer : Result (List ℕ) Error)
    → MatchResult answer (λ made. Decodes form made (without steps t)) IsOutOfMemory
    → (MeetNoPart steps t → MatchResult answer (λ made. made ≡ document) IsOutOfMemory)
    → MatchResult answer (λ made. Decodes form made (without steps t) × (MeetNoPart steps t → made ≡ document)) IsOutOfMemory
as_it_was form document steps t (Ok made) first second = (first, second)
as_it_was form document steps t (Err e) first second = first

-- the promises of calls on places, if an allocation fails
pub deletes_without_memory : (document : List ℕ) (steps : List Key) → DeletesPlace steps document (Err OutOfMemory)
deletes_without_memory document steps = record {
  scalar = λ form t d is. inl refl;
  without = λ form t d is. refl;
}

-- the errors of a result are those that it may have
pub refused_only : {A : Type 0} (answer : Result A Error) (IsAnswer : A → Type 0) (Refusals : Error → Type 0)
    → MatchResult answer IsAnswer Refusals → IfErr answer Refusals
refused_only (Ok x) IsAnswer Refusals h = tt
refused_only (Err e) IsAnswer Refusals h = h
