mod FirstEntry
mod TreeErrors
