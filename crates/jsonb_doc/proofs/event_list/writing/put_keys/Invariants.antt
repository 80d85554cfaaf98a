use Rattle.jsonb_doc.proofs.Lemmas.{◌++◌, List, map, length, Tree, text, Form, Around, IsWriting}
use Rattle.jsonb_doc.specs.Private.EventParts.{member_keys}
use Rattle.jsonb_doc.proofs.event_list.writing.put_keys.Given as goal

-- the keys of the members that are left come next
abbrev pub invariant-loop-left : goal.invariant-loop-left
invariant-loop-left l = (form : Form) (coming : List Tree) (around : Around) (whole : Tree)
    → IsWriting form l.fn.writer (map text (member_keys l.members) ++ coming) around whole
    → IsWriting form l.writer (map text (member_keys l.left) ++ coming) around whole

abbrev pub decreases-loop-left : goal.decreases-loop-left
decreases-loop-left l = length l.left
