mod EncodingErrors
mod NeverResults
mod OfKinds
