pub mod AttributesLemmas
pub mod CommandsLemmasTexts
pub mod HeadersLemmas
pub mod PagesLemmasGroups
pub mod PagesLemmasKeys
pub mod PathsLemmasTexts
pub mod PlacementLemmasTrees
pub mod WithinLemmas
