-- How a table is held.
use Rattle.std.specs.Prelude.{◌≡◌, ◌<◌, length}
use Rattle.esc_nodes.specs.TableInside.{Filed, AreLinked}
use Rattle.esc_nodes.specs.declared.table.Table.TheInside.{Inside}

abbrev pub filed : Inside → Filed
filed t = record { digests = t.digests.items; buckets = length t.ends.items }

-- the nodes of each bucket are linked, and there are buckets where there are nodes
pub record IsHeld (t : Inside) : Type 0 where
  pub as_many : length t.ends_before.items ≡ length t.digests.items
  pub some : 0 < length t.digests.items → 0 < length t.ends.items
  pub linked : AreLinked t.digests.items t.ends.items t.ends_before.items (length t.digests.items)
