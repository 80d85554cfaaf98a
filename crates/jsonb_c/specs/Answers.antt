-- Results written to the caller's memory, and the status of each.
use Rattle.std.specs.Prelude.{◌≡◌, ◌⊎◌, ◌≤◌, ◌++◌, ℕ, List, [], ◌∷◌, drop, length, Option, Some, None, option_map, unwrap_or, Result, Ok, Err, IfErr, MatchOption, MatchResult}
use Rattle.std.specs.List.{AllZip, zip}
use Rattle.jsonb_doc.specs.declared.error.Error.{Error}
use Rattle.jsonb_doc.specs.declared.error.Error.TheVariants.{OutOfMemory}
use Rattle.jsonb_doc.specs.Answer.{Outcome, and_then}
use Rattle.jsonb_doc.specs.Payload.{Form}
use Rattle.jsonb_doc.specs.Format.{Decodes}
use Rattle.jsonb_doc.specs.Tree.{Tree}
use Rattle.std.specs.Int.{from_bool}
use Rattle.jsonb.specs.Compare.{Truth}
use Rattle.jsonb_c.specs.Status.{code}
use Rattle.jsonb_c.specs.declared.status.Status.{Status}
use Rattle.jsonb_c.specs.declared.status.Status.TheVariants.{Absent, Answered, BufferTooSmall, NoPath, Refused}

-- The result of a call: a value, `None`, or an error.
abbrev pub Found : Type 0 → Type 0
Found A = Outcome (Option A)

-- A value that always exists, as a result.
abbrev pub always : {A : Type 0} → Outcome A → Found A
always answer = and_then answer (λ x. Ok (Some x))

-- The result with the value in its written form.
abbrev pub found_as : {A B : Type 0} → (A → B) → Found A → Found B
found_as written answer = and_then answer (λ found. Ok (option_map written found))

-- ---- the caller's buffer

-- Holds if the list begins with the new members, and is unchanged after them.
abbrev pub IsWritten : {A : Type 0} → List A → List A → List A → Type 0
IsWritten written old new = (length written ≤ length old) × (new ≡ written ++ drop (length written) old)

-- Holds if each list is written to its buffer. If one of them does not fit, the buffers are unchanged.
abbrev pub WritesAll : List (List ℕ) → List (List ℕ) → List (List ℕ) → ℕ → Type 0
WritesAll lists old new status =
    ((status ≡ code Answered) × AllZip (λ list buffer. IsWritten list buffer.0 buffer.1) lists (zip old new))
    ⊎ ((status ≡ code BufferTooSmall) × (AllZip (λ list room. length list ≤ length room) lists old → ⊥) × (new ≡ old))

-- Holds if the bytes and their length are delivered.
abbrev pub DeliversBytes : List ℕ → List ℕ → ℕ → ℕ → List ℕ → Type 0
DeliversBytes old new len status bytes = (len ≡ length bytes) × WritesAll (bytes ∷ []) (old ∷ []) (new ∷ []) status

-- Holds if the caller's value is unchanged, and this is the status.
abbrev pub ShowsNothing : {A : Type 0} → A → A → ℕ → Status → Type 0
ShowsNothing old new status cause = (new ≡ old) × (status ≡ code cause)

-- Holds if no bytes are delivered: the buffer is unchanged, and this is the status.
abbrev pub DeliversNothing : List ℕ → List ℕ → ℕ → ℕ → Status → Type 0
DeliversNothing old new len status cause = (len ≡ 0) × (new ≡ old) × (status ≡ code cause)

-- Holds if the result is delivered; the buffer is unchanged if there are no bytes.
abbrev pub Delivers : List ℕ → List ℕ → ℕ → ℕ → Found (List ℕ) → Type 0
Delivers old new len status (Ok (Some bytes)) = DeliversBytes old new len status bytes
Delivers old new len status (Ok None) = DeliversNothing old new len status Absent
Delivers old new len status (Err e) = DeliversNothing old new len status (Refused e)

-- ---- one value

-- 0 for false, 1 for true, 2 for unknown.
abbrev pub truth_byte : Truth → ℕ
truth_byte truth = unwrap_or (option_map from_bool truth) 2

-- Holds if the value is delivered; the caller's is unchanged if there is none or the call fails.
abbrev pub Shows : {A : Type 0} → A → A → ℕ → Found A → Type 0
Shows old new status (Ok (Some x)) = (new ≡ x) × (status ≡ code Answered)
Shows old new status (Ok None) = ShowsNothing old new status Absent
Shows old new status (Err e) = ShowsNothing old new status (Refused e)

-- ---- values that always exist

-- Holds if the bytes are delivered, or the error.
abbrev pub DeliversValue : List ℕ → List ℕ → ℕ → ℕ → Outcome (List ℕ) → Type 0
DeliversValue old new len status answer = Delivers old new len status (always answer)

-- Holds if the value is delivered, or the error.
abbrev pub ShowsValue : {A : Type 0} → A → A → ℕ → Outcome A → Type 0
ShowsValue old new status answer = Shows old new status (always answer)

-- Holds if the value in its written form is delivered, or the error.
abbrev pub ShowsAs : {A B : Type 0} → (A → B) → B → B → ℕ → Outcome A → Type 0
ShowsAs written old new status answer = Shows old new status (found_as written (always answer))

-- ---- what a call promises

-- Holds if the promise does for the tree that the document decodes to, in each form in which it does.
abbrev pub OfDocument : {A : Type 0} → List ℕ → (Form → Tree → A → Type 0) → A → Type 0
OfDocument document Promise answer = (form : Form) (t : Tree) → Decodes form document t → Promise form t answer

-- Holds if there is such a result, which fails only with the stated errors, and it is delivered.
abbrev pub WritesResult : {A : Type 0} → (Outcome A → Type 0) → (Error → Type 0) → (Outcome A → Type 0) → Type 0
WritesResult {A} IsAnswer Refusals IsShown =
    (answer : Outcome A) × IsAnswer answer × IfErr answer Refusals × IsShown answer

-- ---- what a call runs with, and how it fails without

-- Holds if the call runs with what is read of its input, or fails with the status if it cannot be read, or because an
-- allocation fails.
abbrev pub With : {P : Type 0} → Result P Status → (P → Type 0) → (Status → Type 0) → Type 0
With read Runs Fails = MatchResult read Runs Fails ⊎ Fails (Refused OutOfMemory)

-- Holds if the call runs with the path or the items that the handle keeps, or fails if it keeps none.
abbrev pub WithKept : {P : Type 0} → Option P → (P → Type 0) → (Status → Type 0) → Type 0
WithKept kept Runs Fails = MatchOption kept (Fails NoPath) Runs

-- Holds if what the call finds is delivered, or nothing if it fails. `Input` says with what it runs: `With read`,
-- `WithKept kept` or `WithPath limit kept document`.
abbrev pub DeliversBy : {P : Type 0} → ((P → Type 0) → (Status → Type 0) → Type 0)
    → (P → (Found (List ℕ) → Type 0) → Type 0) → List ℕ → List ℕ → ℕ → ℕ → Type 0
DeliversBy Input Call old new len status =
    Input (λ input. Call input (Delivers old new len status)) (DeliversNothing old new len status)
