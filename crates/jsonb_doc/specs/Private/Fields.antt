-- The value of a key among the parts of an object.
use Rattle.std.specs.Prelude.{◌≡◌, ℕ, List, ◌++◌, Option, Some, None}
use Rattle.jsonb_doc.specs.Tree.{Tree, Pairs, value_under}
use Rattle.jsonb_doc.specs.Payload.{NumberReader}
use Rattle.jsonb_doc.specs.Format.{IsContent}
use Rattle.jsonb_doc.specs.Kinds.{kind_number}
use Rattle.jsonb_doc.specs.declared.container.ObjectParts.{ObjectParts}
use Rattle.jsonb_doc.specs.declared.layout.Entry.{Entry}

-- the entry is that of the value of the name, and the contents end with its content and those of the entries after it
pub record IsValueEntry (number_at : NumberReader) (name : List ℕ) (ps : Pairs) (p : ObjectParts) (e : Entry)
    : Type 0 where
  pub value : Tree
  pub under : value_under name ps ≡ Some value
  pub part : IsContent number_at value (kind_number e.kind) e.content.now
  pub front : List ℕ
  pub ends : p.contents.now ≡ front ++ (e.content.now ++ e.other_contents.now)

-- the result of a search for the value of the name
abbrev pub FindsValue : NumberReader → List ℕ → Pairs → ObjectParts → Option Entry → Type 0
FindsValue number_at name ps p None = value_under name ps ≡ None
FindsValue number_at name ps p (Some e) = IsValueEntry number_at name ps p e
