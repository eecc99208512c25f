mod EncodedLines
mod ScriptDecoding
mod ScriptUniqueness
