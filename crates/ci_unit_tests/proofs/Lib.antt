mod NodeLaws
