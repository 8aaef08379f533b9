mod EqualityLaws
mod LabelEquality
