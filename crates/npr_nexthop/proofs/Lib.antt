mod EqualityLaws
