mod Appended
mod Records
mod Reported
mod WalkArguments
