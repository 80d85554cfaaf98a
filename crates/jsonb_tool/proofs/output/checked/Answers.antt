use Rattle.std.proofs.Common.{rules}
use Rattle.jsonb_tool.proofs.Checks.{damage_of_check}
use Rattle.jsonb_tool.proofs.output.checked.Goals as goal

pub returns-in_err-check : goal.returns-in_err-check
returns-in_err-check c =
    let said = c.in_err-check.ensures in
    let damage = damage_of_check _ c.in_err-check.field-0.0 said.ok said.unsupported said.invalid in
    let damage_of_bytes = rw c.new-document.ensures at damage in
    search (rules, damage_of_bytes)
