-- The memory that a handle owns.
use Rattle.std.specs.Prelude.{Bool, true, false, Option, Some, None}
use base.Fml.{Fml, ftrue, fex}
use denote.RawPtr.{Ptr}
use Rattle.std.specs.contracts.impls.GlobalAllocator.TheImpl.{ghosts}
use Rattle.std.specs.declared.alloc.Global.{Global}
use Rattle.std.specs.Box.Ownership.{box_owns}
use Rattle.jsonb_c.specs.contracts.prepared.path.PreparedPath.{the_row}
use Rattle.jsonb_c.specs.declared.prepared.path.PreparedPath.{PreparedPath}

-- The only allocator.
abbrev pub the_heap : Global
the_heap = record { memory = record { seal = tt } }

-- The path's block and the right to free it, if the flag is set. Otherwise there is no path, and nothing is owned. No
-- other handle exists: the last assertion is false.
abbrev pub owns_kept : Bool → Ptr → Option PreparedPath → Fml
owns_kept true p (Some x) = box_owns (ghosts.dealloc_token the_heap) the_row p x
owns_kept false p None = ftrue
owns_kept there p kept = fex ⊥ (λ _. ftrue)
