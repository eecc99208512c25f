mod MoreObjects
