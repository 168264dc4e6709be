-- A child of a directory, and an attribute of a path, as the definitions have them.
use Rattle.store_model.specs.Commands.{Child, AttributeSize}
use Rattle.store_base.specs.declared.entries.Entry.{Entry}
use Rattle.store_base.specs.declared.attr_entries.Attribute.{Attribute}

abbrev pub child_of : Entry → Child
child_of e = (e.name.items, e.size)

abbrev pub attribute_of : Attribute → AttributeSize
attribute_of a = (a.name.items, a.size)
