mod EqualityLaws
mod TableEquality
