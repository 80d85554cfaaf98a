-- Errors of functions that write a sortable key.
use Rattle.std.specs.Prelude.{◌≤◌, ℕ}
use Rattle.jsonb_doc.specs.Answer.{IsOutOfMemory, ◌or◌when◌}
use Rattle.jsonb_doc.specs.declared.error.Error.{Error}
use Rattle.jsonb_doc.specs.declared.error.Error.TheVariants.{TooDeep}

-- Holds if an allocation failed, or an item is too deep.
abbrev pub IsOutOfMemoryOrTooDeep : ℕ → ℕ → Error → Type 0
IsOutOfMemoryOrTooDeep deepest_item limit = IsOutOfMemory or TooDeep when (limit ≤ deepest_item)
