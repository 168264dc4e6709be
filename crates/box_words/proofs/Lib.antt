mod CutNames
mod PathWords
mod ShownNames
mod Values
mod VisibleText
