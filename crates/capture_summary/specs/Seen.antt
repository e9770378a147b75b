-- An element of an extended header, without where it lies in memory.
use Rattle.capture_summary.specs.Elements.{Element}
use Rattle.capture_summary.specs.declared.sequence.Element.{Element as SplitElement}

abbrev pub element_parts : SplitElement → Element
element_parts split = record { kind = split.kind; value = split.value.now }
