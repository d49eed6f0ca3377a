-- A table's places and chains.
use Rattle.chains.specs.declared.table.Table.{Table}
use Rattle.chains.specs.Linkages.{Linkage, linkage_of}

abbrev pub linkage : Table → Linkage
linkage t = linkage_of t.links.now t.chains
