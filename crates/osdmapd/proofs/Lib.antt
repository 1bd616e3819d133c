mod PlainWords
mod UsualLines
