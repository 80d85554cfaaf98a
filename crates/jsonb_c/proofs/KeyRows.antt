-- Rows of keys that were written over what a vector holds.
use Rattle.std.proofs.Common.{ℕ, List, Some, Result, Ok, Err}
use Rattle.std.specs.Prelude.{Vec, IfErr}
use Rattle.std.specs.Result.{result_and}
use Rattle.std.specs.declared.alloc.Global.{Global}
use Rattle.jsonb_doc.specs.declared.error.Error.{Error}
use Rattle.jsonb_c.specs.declared.column.call.RowBytes.TheVariants.{Buffered}
use Rattle.jsonb_c.specs.Private.Buffers.{written_answer, written_key}
use Rattle.jsonb_c.specs.Answers.{Shows, ShowsValue, WritesResult}

-- the row is the key, or why there is none
pub writes_key : (written : Result (Unit {0}) Error) (made : Vec ℕ Global) (IsKey : Result (List ℕ) Error → Type 0) (Refusals : Error → Type 0)
    (old new : List ℕ) (status : ℕ) → IsKey (written_key written made.items) → IfErr written Refusals
    → Shows old new status (written_answer (result_and written (Ok (Some Buffered))) made.items)
    → WritesResult IsKey Refusals (ShowsValue old new status)
writes_key (Ok _) made IsKey Refusals old new status is errors shown = (Ok made.items, is, tt, shown)
writes_key (Err e) made IsKey Refusals old new status is errors shown = (Err e, is, errors, shown)
