mod NumberOption
