-- How either kind of names is seen. No public clause cites this module.
use Rattle.std.specs.Prelude.{ℕ, Some, None}
use Rattle.name_space.specs.Names.{SpaceView}
use Rattle.name_space.specs.declared.table.Kind.{Kind}
use Rattle.name_space.specs.declared.table.Kind.TheVariants.{Plain, Tagged}

abbrev pub view_of : Kind → SpaceView
view_of (Plain v) = record { names = v.names; room = v.room; kept = v.kept; given = None }
view_of (Tagged v) = record { names = v.names; room = v.room; kept = v.kept; given = Some v.given }

-- the names below this lie in the pages of names without a generation
abbrev pub end_of : Kind → ℕ
end_of (Plain v) = 65536
end_of (Tagged v) = 0
