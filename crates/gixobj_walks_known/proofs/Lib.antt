mod Candidates
mod Listed
mod Marks
