-- What an error of a check says.
use Rattle.std.proofs.Common.{List, ℕ, Err, refl, inl, inr}
use Rattle.std.specs.Prelude.{◌↔◌, IsOk, IsErrOf}
use Rattle.jsonb.specs.Error.{Error}
use Rattle.jsonb.specs.Error.TheVariants.{InvalidJsonb, UnsupportedNumber}
use Rattle.jsonb.specs.Tree.{Tree}
use Rattle.jsonb.specs.Payload.{any}
use Rattle.jsonb.specs.Format.{Decodes}
use Rattle.jsonb.specs.Unsupported.{WouldDecode}
use Rattle.jsonb_tool.specs.Output.{IsDamage}

-- an error of a check says why the bytes are not a document
pub damage_of_check : (bytes : List ℕ) (e : Error)
    → IsOk {T = Unit {0}} {E = Error} (Err e) ↔ ((t : Tree) × Decodes any bytes t)
    → IsErrOf {T = Unit {0}} (Err e) UnsupportedNumber
    ↔ (((t : Tree) → Decodes any bytes t → ⊥) × ((t : Tree) × WouldDecode bytes t))
    → IsErrOf {T = Unit {0}} (Err e) InvalidJsonb ↔ ((t : Tree) → WouldDecode bytes t → ⊥)
    → IsDamage bytes e
damage_of_check bytes UnsupportedNumber ok unsupported invalid = inl (refl, unsupported.0 refl)
damage_of_check bytes InvalidJsonb ok unsupported invalid = inr (refl, invalid.0 refl)
damage_of_check bytes e ok unsupported invalid =
    let no_tree : (t : Tree) → Decodes any bytes t → ⊥ = λ t d. let h = ok.1 (t, d) in cc in
    let no_would : (t : Tree) → WouldDecode bytes t → ⊥ = λ t w. let h = unsupported.1 (no_tree, (t, w)) in cc in
    let h = invalid.1 no_would in cc
