-- Sets of errors.
use Rattle.jsonb_doc.specs.Tree.{Tree}
use Rattle.jsonb_doc.specs.Payload.{Form}
use Rattle.jsonb_doc.specs.Limits.{IsTooLarge}
use Rattle.jsonb_doc.specs.Answer.{IsOutOfMemory, ◌or◌when◌}
use Rattle.jsonb_doc.specs.declared.error.Error.{Error}
use Rattle.jsonb_doc.specs.declared.error.Error.TheVariants.{TooLarge}

-- Holds if an allocation failed, or the error is `TooLarge` and documents of the tree exceed the limits.
abbrev pub IsOutOfMemoryOrTooLarge : Form → Tree → Error → Type 0
IsOutOfMemoryOrTooLarge form t = IsOutOfMemory or TooLarge when IsTooLarge form t
